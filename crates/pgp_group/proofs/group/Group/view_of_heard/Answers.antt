use Rattle.pgp_group.proofs.Common.{◌≡◌, ap, not, sym, ◌∙◌, list_any, Membership, Member, Prior, has_member, incs, cleans, past, prior, basis_of, is_waiting, IsBestCopy, verdict}
use Rattle.pgp_group.proofs.PartLemmas.{waiting-is}
use Rattle.pgp_group.proofs.group.Group.view_of_heard.Goals as goal

pub returns : goal.returns
returns c = λ g keeps here current heard logs reckoned count.
    let infos = c.args.self.now.infos.heard.infos in
    let past_is : past g ≡ c.from_vec.result = sym (c.from_vec.ensures ∙ c.in_ok-intervals.ensures g.history (cleans g) keeps.intervals_are) in
    let prior_is : prior g ≡ c.in_ok-prior.prior = sym (c.in_ok-prior.ensures (basis_of g) reckoned) in
    let copy : IsBestCopy g c.in_ok-copy.copy = c.in_ok-copy.ensures g keeps current heard logs in
    let waiting : is_waiting g ≡ c.is_waiting-waiting.result = sym (c.is_waiting-waiting.ensures
    ∙ ap (list_any (λ (member : Member). not (has_member member infos))) c.as_slice.ensures
    ∙ waiting-is g c.in_ok-prior.prior infos (sym prior_is) heard.infos) in
    let decided : c.verdict-verdict.result ≡ verdict g =
    c.verdict-verdict.ensures g keeps here current copy (ap (λ (found : Prior). found.down) prior_is) waiting in
    λ i. record {
      count = count i;
      epoch = sym (c.epoch.ensures (incs g) here.map_is) i;
      up = sym (ap (λ (m : Membership). m.up) current) i;
      up_primary = sym (ap (λ (m : Membership). m.up_primary) current) i;
      acting = sym (ap (λ (m : Membership). m.acting) current) i;
      acting_primary = sym (ap (λ (m : Membership). m.acting_primary) current) i;
      first = sym here.first_is i;
      intervals = past_is i;
      les = sym keeps.infos_are.les_is i;
      probe = ap (λ (found : Prior). found.probe) prior_is i;
      blocked_by = ap (λ (found : Prior). found.blocked_by) prior_is i;
      verdict = sym decided i;
      best = sym copy.member i;
      missing = sym copy.states i;
    }

use Rattle.pgp_group.proofs.Common.{◌≡◌, List, refl, drop, ap, ap₂, sym, ◌∙◌, filter, Info, Heard, with_infos, Preference, infos, heard}
use Rattle.pgp_group.specs.Heard.{counts}
use Rattle.pgp_group.proofs.InboxLemmas.{unseen-is}
use Rattle.pgp_group.proofs.InfosLemmas.{heard-on, KeepsInfos-heard}
use Rattle.pgp_group.proofs.infos.Infos.look.Goals as goal

pub returns-in-Ok-clause-ok : goal.returns-in-Ok-clause-ok
returns-in-Ok-clause-ok c = λ g here is.
    let old = c.args.self.now in
    let more : Heard Preference → List Info → Heard Preference = λ h l. record h { infos = with_infos (filter (counts g) l) h.infos } in
    let unseen : c.unseen.result.now ≡ drop old.inbox.seen (infos g) = unseen-is is.inbox_is c.unseen.ensures in
    c.in-Ok.ensures g here
    ∙ ap₂ more (c.forget_uncounted.ensures g here is.distinct) unseen
    ∙ ap (λ (l : List Info). record old.heard { infos = l }) (heard-on g old is (c.goes_on.ensures.settled c.if-not-goes_on.false))
    ∙ ap (λ (p : Preference). record { prefer = p; infos = heard g }) (sym (c.goes_on.ensures.same c.if-not-goes_on.false))

pub returns-in-Ok-clause-kept : goal.returns-in-Ok-clause-kept
returns-in-Ok-clause-kept c = λ g here is.
    KeepsInfos-heard g c.args.self.now _ is c.mark_seen-in-Ok.ensures refl (ap (λ (h : Heard Preference). h.infos) (returns-in-Ok-clause-ok c g here is))

pub returns-then-not-goes_on-clause-kept : goal.returns-then-not-goes_on-clause-kept
returns-then-not-goes_on-clause-kept c = λ g here is.
    KeepsInfos-heard g c.args.self.now _ is c.mark_seen.ensures refl (ap (λ (h : Heard Preference). h.infos) (c.in_ok-self.ensures g here is))

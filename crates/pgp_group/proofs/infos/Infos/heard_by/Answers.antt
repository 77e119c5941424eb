use Rattle.pgp_group.proofs.Common.{◌≡◌, List, false, drop, ap, ap₂, sym, ◌∙◌, filter, Info, Heard, with_infos, Preference, infos, last_of_each_member}
use Rattle.pgp_group.specs.Heard.{counts}
use Rattle.pgp_group.proofs.InboxLemmas.{unseen-is}
use Rattle.pgp_group.proofs.InfosLemmas.{heard-more}
use Rattle.pgp_group.proofs.infos.Infos.heard_by.Goals as goal

pub returns : goal.returns
returns c = λ g here kept.
    let old = c.args.self.now in
    let by : List Info → Heard Preference = λ l. record { prefer = c.args.prefer; infos = l } in
    let more : Heard Preference → List Info → Heard Preference = λ h l. record h { infos = with_infos (filter (counts g) l) h.infos } in
    let settled : old.inbox.ahead ≡ false = sym c.is_ahead.ensures ∙ c.if-is_ahead.false in
    let unseen : c.unseen.result.now ≡ drop old.inbox.seen (infos g) = unseen-is kept.inbox_is c.unseen.ensures in
    c.in_ok-hear.ensures g here
    ∙ ap₂ more (c.in_ok-best.ensures g here) unseen
    ∙ ap (λ (l : List Info). more (by (last_of_each_member (filter (counts g) l))) (drop old.inbox.seen (infos g))) c.infos.ensures
    ∙ ap by (heard-more g old kept settled)

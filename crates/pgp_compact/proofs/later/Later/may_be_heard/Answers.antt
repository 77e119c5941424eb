use Rattle.pgp_compact.proofs.Common.{infos_of, is_counted, map, refl, sent, sym, true, ◌∙◌, ◌≡◌}
use Rattle.pgp_compact.proofs.LaterLemmas.{senders-are}
use Rattle.pgp_compact.proofs.later.Later.may_be_heard.Goals as goal

pub returns-then-is_counted : goal.returns-then-is_counted
returns-then-is_counted c = λ log later g kept present.
    let info = c.args.info.now in
    let counted : is_counted g info.member info.stamp ≡ true = sym (c.is_counted.ensures g present) ∙ c.if-is_counted.true in
    let noted = rw (c.sender_of-sender.ensures, c.number.ensures) at c.reaches.ensures (map sent (infos_of later)) kept.senders in
    rw (counted, noted, senders-are info (infos_of later)) refl

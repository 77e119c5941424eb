use Rattle.pgp_compact.proofs.Common.{arith, infos_of, map, on_ok, sent, told_opening}
use Rattle.pgp_compact.proofs.later.Later.note_info.Goals as goal

pub returns : goal.returns
returns c = on_ok c.note_clean.result _ _ (λ noted log later kept is.
    let told = infos_of later in
    let senders = c.in_ok-note.ensures (map sent told) kept.senders in
    let starts = c.in_ok-note-2.ensures (map told_opening told) kept.starts in
    grind (arith, senders, starts, noted log later kept.cleans is)) c.note_clean.ensures

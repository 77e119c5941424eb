use Rattle.pgp_compact.proofs.Common.{arith, clean_in, flat_map, infos_of, on_ok}
use Rattle.pgp_compact.proofs.later.note_clean.Goals as goal

pub returns-in-Some : goal.returns-in-Some
returns-in-Some c = on_ok c.note.result _ _ (λ noted log later kept is. grind (arith, noted (flat_map (clean_in log) (infos_of later)) kept)) c.note.ensures

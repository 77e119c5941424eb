use Rattle.pgp_log.proofs.Common.{◌≡◌, List, false, take, Incremental, IsMapOf, makes_heavier}
use Rattle.pgp_log.proofs.before.MapBefore.makes_heavier.Given as goal

abbrev pub invariant-loop-old : goal.invariant-loop-old
invariant-loop-old l = (incs : List Incremental) → IsMapOf incs l.after → makes_heavier incs (take l.old-index l.old-items) ≡ false

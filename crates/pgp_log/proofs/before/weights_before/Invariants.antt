use Rattle.pgp_log.proofs.Common.{◌≡◌, List, map, take, Incremental, IsMapOf, weighed}
use Rattle.pgp_log.proofs.before.weights_before.Given as goal

abbrev pub invariant-loop-given : goal.invariant-loop-given
invariant-loop-given l = (incs : List Incremental) → IsMapOf incs l.map → l.weights.items ≡ map (weighed incs) (take l.given-index l.all)

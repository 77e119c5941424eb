use Rattle.std.proofs.Common.{◌≡◌, ◌<◌, ◌^◌, take, sum}
use Rattle.pgp_crush.proofs.faults.exceeds_word.Given as goal

abbrev pub invariant-loop-weight : goal.invariant-loop-weight
invariant-loop-weight l = record {
  total_is : l.total ≡ sum (take l.weight-index l.weights);
  fits : l.total < 2 ^ 32;
}

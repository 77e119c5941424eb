use Rattle.std.proofs.Common.{◌≡◌, ◌++◌, take, drop, map}
use Rattle.pgp_prior.specs.kept.JudgedInterval.{later_les}
use Rattle.pgp_prior.proofs.index.PriorIndex.set_les.Given as goal

-- the intervals so far have the later epoch
abbrev pub invariant-loop-kept : goal.invariant-loop-kept
invariant-loop-kept g l = l.past ≡ map (later_les l.les) (take l.kept-index l.initial.past) ++ drop l.kept-index l.initial.past

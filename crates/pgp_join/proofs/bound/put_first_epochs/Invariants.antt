use Rattle.std.proofs.Common.{map, nat_eq, take}
use Rattle.std.specs.Set.{IsUnion}
use Rattle.pgp_join.specs.Alike.{ending_from}
use Rattle.pgp_join.proofs.bound.put_first_epochs.Given as goal

abbrev pub invariant-loop-interval : goal.invariant-loop-interval
invariant-loop-interval l =
    IsUnion nat_eq l.initial.epochs.keys (map (λ past. past.first) (ending_from l.view.les (take l.interval-index l.interval-items))) l.epochs.keys

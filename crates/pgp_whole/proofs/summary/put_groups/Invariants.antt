use Rattle.std.proofs.Common.{◌≡◌, ◌++◌, map}
use Rattle.std.specs.List.{range_with_len}
use Rattle.pgp_whole.specs.Summary.{group_of}
use Rattle.pgp_whole.proofs.summary.put_groups.Given as goal

abbrev pub invariant-loop-pg : goal.invariant-loop-pg
invariant-loop-pg l = l.groups.items ≡ l.initial.groups.items ++ map (group_of l.id) (range_with_len 0 l.pg)

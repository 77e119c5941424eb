use Rattle.std.proofs.Common.{◌≡◌, All, take}
use Rattle.pgp_join.specs.Alike.{IsGroupAlike}
use Rattle.pgp_join.proofs.alike.are_groups_alike.Given as goal

abbrev pub invariant-loop-pg : goal.invariant-loop-pg
invariant-loop-pg l = (l.log ≡ l.initial.log) × ((l.other ≡ l.initial.other) × All (IsGroupAlike l.initial.log l.initial.other) (take l.pg-index l.pg-items))

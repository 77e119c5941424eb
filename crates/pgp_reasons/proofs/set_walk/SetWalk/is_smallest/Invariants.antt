use Rattle.std.proofs.Common.{◌≡◌, ◌+◌, ◌≤◌, false, take}
use Rattle.std.specs.List.{list_any}
use Rattle.pgp_reasons.specs.Smallest.{each_but_one}
use Rattle.pgp_reasons.proofs.set_walk.SetWalk.is_smallest.Given as goal

abbrev pub invariant-loop-place : goal.invariant-loop-place
invariant-loop-place g l = record {
  kept : l.self.sets ≡ l.fn.self.sets;
  counted : l.fn.self.looks ≤ l.self.looks + (l.place + 1);
  none : list_any (g.E.Enough.enough l.judge) (take l.place (each_but_one l.set)) ≡ false;
}

use Rattle.std.proofs.Common.{◌≡◌, take, false}
use Rattle.std.specs.List.{list_any}
use Rattle.std.specs.HashSet as bag
use Rattle.pgp_lists.specs.Repeats.{has_repeat}
use Rattle.pgp_lists.proofs.twice.has_repeat.Given as goal

abbrev pub invariant-loop-item : goal.invariant-loop-item
invariant-loop-item g l = record {
  seen_is : (q : g.row.T.Denot) → bag.contains g.T.PartialEq.eq l.seen q ≡ list_any (g.T.PartialEq.eq q) (take l.item-index l.items);
  fresh : has_repeat g.T.PartialEq.eq (take l.item-index l.items) ≡ false;
}

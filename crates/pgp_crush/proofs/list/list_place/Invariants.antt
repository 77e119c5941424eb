use Rattle.std.proofs.Common.{◌≡◌, ◌≤◌, length, take, sum}
use Rattle.pgp_crush.specs.Choice.{list_place}
use Rattle.pgp_crush.proofs.ChoiceLemmas.{place_below}
use Rattle.pgp_crush.proofs.list.list_place.Given as goal

abbrev pub invariant-loop-i : goal.invariant-loop-i
invariant-loop-i l = record {
  left : l.i ≤ length l.items;
  total_is : l.total ≡ sum (take l.i l.weights);
  same : list_place l.x l.r l.id l.items l.weights ≡ place_below l.x l.r l.id l.items l.weights l.i;
}

abbrev pub decreases-loop-i : goal.decreases-loop-i
decreases-loop-i l = l.i

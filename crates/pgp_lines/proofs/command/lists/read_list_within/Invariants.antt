use Rattle.std.proofs.Common.{◌≡◌, ◌≤◌, length}
use Rattle.pgp_lines.specs.Shapes.{list_in}
use Rattle.pgp_lines.specs.Value.{view, items_left}
use Rattle.pgp_lines.proofs.Walks.{list_after}
use Rattle.pgp_lines.proofs.command.lists.read_list_within.Given as goal

abbrev pub invariant-loop-item : goal.invariant-loop-item
invariant-loop-item g l =
    (list_in l.low l.high g.T.Shape.shape (view l.value) ≡ list_after l.low l.high g.T.Shape.shape l.found (items_left l.items)) × (length l.found ≤ l.high)

abbrev pub decreases-loop-item : goal.decreases-loop-item
decreases-loop-item g l = length l.items

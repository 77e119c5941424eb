use Rattle.std.proofs.Common.{◌≡◌, length}
use Rattle.pgp_lines.specs.Shapes.{list_of}
use Rattle.pgp_lines.specs.Value.{view, items_left}
use Rattle.pgp_lines.proofs.Walks.{each_after}
use Rattle.pgp_lines.proofs.command.lists.SeqShape.read.Given as goal

abbrev pub invariant-loop-item : goal.invariant-loop-item
invariant-loop-item g l = list_of g.T.Shape.shape (view l.value) ≡ each_after g.T.Shape.shape l.found (items_left l.items)

abbrev pub decreases-loop-item : goal.decreases-loop-item
decreases-loop-item g l = length l.items

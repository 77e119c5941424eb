use Rattle.std.proofs.Common.{◌≡◌, take, map}
use Rattle.pgp_crush.specs.Cells.{leaf_held}
use Rattle.pgp_crush.proofs.indep.leaves_held.Given as goal

abbrev pub invariant-loop-cell : goal.invariant-loop-cell
invariant-loop-cell l = l.osds ≡ map leaf_held (take l.cell-index l.cells)

use Rattle.std.proofs.Common.{◌≡◌}
use Rattle.pgp_crush.specs.Candidate.{input_of}
use Rattle.pgp_crush.specs.Cells.{cells_row}
use Rattle.pgp_crush.proofs.candidate.Input.try_row.Given as goal

abbrev pub invariant-loop-position : goal.invariant-loop-position
invariant-loop-position l =
    l.cells ≡ cells_row (input_of l.self.tree.now l.self.weights.now l.self.x l.self.kind) l.n l.round l.initial.cells l.position

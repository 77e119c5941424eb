use Rattle.std.proofs.Common.{◌≡◌}
use Rattle.pgp_crush.specs.Candidate.{input_of}
use Rattle.pgp_crush.specs.Cells.{cells_after}
use Rattle.pgp_crush.proofs.candidate.Input.indep.Given as goal

abbrev pub invariant-loop-round : goal.invariant-loop-round
invariant-loop-round l =
    l.cells ≡ cells_after (input_of l.self.tree.now l.self.weights.now l.self.x l.self.kind) l.n l.round

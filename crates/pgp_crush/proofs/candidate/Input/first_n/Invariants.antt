use Rattle.std.proofs.Common.{◌≡◌, ◌≤◌, length}
use Rattle.pgp_crush.specs.Candidate.{input_of}
use Rattle.pgp_crush.specs.FirstN.{first_picks}
use Rattle.pgp_crush.proofs.candidate.Input.first_n.Given as goal

abbrev pub invariant-loop-rep : goal.invariant-loop-rep
invariant-loop-rep l = record {
  same : l.taken ≡ first_picks (input_of l.self.tree.now l.self.weights.now l.self.x l.self.kind) l.rep;
  room : length l.taken.leaves ≤ l.rep;
}

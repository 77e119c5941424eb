use Rattle.std.proofs.Common.{◌≡◌}
use Rattle.pgp_crush.specs.Candidate.{input_of}
use Rattle.pgp_crush.specs.FirstN.{pick_of}
use Rattle.pgp_crush.proofs.FirstNLemmas.{from_try}
use Rattle.pgp_crush.proofs.candidate.Input.pick.Given as goal

abbrev pub invariant-loop-f : goal.invariant-loop-f
invariant-loop-f l =
    let i = input_of l.self.tree.now l.self.weights.now l.self.x l.self.kind in
    pick_of i l.taken l.rep ≡ from_try i l.taken l.rep l.f

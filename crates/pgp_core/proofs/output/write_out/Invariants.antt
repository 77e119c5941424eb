use Rattle.std.proofs.Common.{◌≡◌, length}
use Rattle.pgp_core.specs.Output.{WrittenPart}
use Rattle.pgp_core.proofs.output.write_out.Given as goal

abbrev pub invariant-loop-rest : goal.invariant-loop-rest
invariant-loop-rest g l = record {
  went : WrittenPart (g.W.Sink.state l.initial.writer).contents (g.W.Sink.state l.writer).contents l.text l.rest;
  kept : (g.W.Sink.state l.writer).failed ≡ (g.W.Sink.state l.initial.writer).failed;
}

abbrev pub decreases-loop-rest : goal.decreases-loop-rest
decreases-loop-rest g l = length l.rest

use Rattle.std.proofs.Common.{◌≡◌, ◌+◌, length}
use Rattle.pgp_core.specs.kept.Progress.{ChunkPart}
use Rattle.pgp_core.proofs.script.Script.take.Given as goal

abbrev pub invariant-loop-rest : goal.invariant-loop-rest
invariant-loop-rest g l = record {
  left : l.self.input.left.bytes + length l.chunk ≡ l.initial.self.input.left.bytes + length l.rest;
  kept : (g.W.Sink.state l.writer).failed ≡ (g.W.Sink.state l.initial.writer).failed;
  taken : ChunkPart g.A.Answerer.alone l.initial.self l.self (g.A.Answerer.log l.initial.answerer) (g.A.Answerer.log l.answerer)
      (g.W.Sink.state l.initial.writer).contents (g.W.Sink.state l.writer).contents l.chunk l.rest;
}

abbrev pub decreases-loop-rest : goal.decreases-loop-rest
decreases-loop-rest g l = length l.rest

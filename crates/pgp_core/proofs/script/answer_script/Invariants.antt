use Rattle.std.proofs.Common.{◌≡◌, ◌<◌, length}
use Rattle.pgp_core.specs.Telling.{run_start}
use Rattle.pgp_core.specs.kept.Progress.{Reads}
use Rattle.pgp_core.proofs.script.answer_script.Given as goal

abbrev pub invariant-loop-script : goal.invariant-loop-script
invariant-loop-script g l = record {
  room : 0 < length l.chunk;
  reads : Reads g.A.Answerer.alone (run_start l.fn.format (g.A.Answerer.log l.initial.answerer) l.fn.bounds (g.W.Sink.state l.initial.writer).contents) l.script (g.A.Answerer.log l.answerer)
      (g.R.Source.state l.initial.reader).remaining (g.R.Source.state l.reader).remaining (g.W.Sink.state l.writer).contents;
  reader_kept : (g.R.Source.state l.reader).failed ≡ (g.R.Source.state l.initial.reader).failed;
  writer_kept : (g.W.Sink.state l.writer).failed ≡ (g.W.Sink.state l.initial.writer).failed;
}

abbrev pub decreases-loop-script : goal.decreases-loop-script
decreases-loop-script g l = l.script.input.left.bytes

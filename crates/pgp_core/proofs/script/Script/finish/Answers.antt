use Rattle.std.proofs.Common.{[], append-nil}
use Rattle.pgp_core.specs.Lines.{lines_of}
use Rattle.pgp_core.specs.Telling.{IsAnsweredWhole}
use Rattle.pgp_core.proofs.RunLemmas.{cut_off, done_ended, done_started, passed_on, stopped-at-last}
use Rattle.pgp_core.proofs.TurnLemmas.{written}
use Rattle.pgp_core.proofs.script.Script.finish.Goals as goal
use Rattle.pgp_core.proofs.script.Script.finish.Goals.{then-self+in_ok-put_answer, else-self}

pub returns-in_err-put_answer-clause-err : goal.returns-in_err-put_answer-clause-err
returns-in_err-put_answer-clause-err g c =
    passed_on _ _ _ _ c.from_residual.ensures.1
    (stopped-at-last c.in_err-put_answer.field-0.0 g.A.Answerer.alone c.args.self.now _ _ _ c.if-self.true c.in_err-put_answer.ensures.err)

pub returns-in_err-flush-clause-err : goal.returns-in_err-flush-clause-err
returns-in_err-flush-clause-err g c =
    passed_on _ _ _ _ c.from_residual-in_err-flush.ensures.1
    (λ start bytes so_far.
    let done : IsAnsweredWhole g.A.Answerer.alone start (g.A.Answerer.log c.if-self.answerer) (g.W.Sink.state c.if-self.writer).contents c.if-self.self.output.pending.items bytes =
    elim c.if-self.branch [
      | then-self+in_ok-put_answer w ↦
          rw (w.self-is, w.answerer-is, w.writer-is) (done_started _ c.args.self.now _ _ _ _ _ w.if-self.true w.in_ok-put_answer.ensures.ok start bytes so_far)
      | else-self w ↦ rw (w.self-is, w.answerer-is, w.writer-is) (done_ended _ c.args.self.now _ _ w.if-self.false start bytes so_far)
    ] in
    record {
      other = λ read. cc;
      within = done.within;
      stopped = rw append-nil at (cut_off g.A.Answerer.alone start (lines_of bytes) [] _ _ _ _ done.answered c.in_err-flush.ensures.err);
    })

pub returns-clause-ok : goal.returns-clause-ok
returns-clause-ok g c start bytes so_far =
    let done : IsAnsweredWhole g.A.Answerer.alone start (g.A.Answerer.log c.if-self.answerer) (g.W.Sink.state c.if-self.writer).contents c.if-self.self.output.pending.items bytes =
    elim c.if-self.branch [
      | then-self+in_ok-put_answer w ↦
          rw (w.self-is, w.answerer-is, w.writer-is) (done_started _ c.args.self.now _ _ _ _ _ w.if-self.true w.in_ok-put_answer.ensures.ok start bytes so_far)
      | else-self w ↦ rw (w.self-is, w.answerer-is, w.writer-is) (done_ended _ c.args.self.now _ _ w.if-self.false start bytes so_far)
    ] in
    record { within = done.within; answered = written g.A.Answerer.alone start (lines_of bytes) _ _ _ _ done.answered c.in_ok-flush.ensures.ok }

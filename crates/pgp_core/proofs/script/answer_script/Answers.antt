use Rattle.std.proofs.Common.{[], arith, lit<, refl, ◌∙◌}
use Rattle.std.proofs.KnownBytes.{Consumes-nil}
use Rattle.pgp_core.proofs.RunLemmas.{passed_on}
use Rattle.pgp_core.proofs.TurnLemmas.{no_read_failed, stops_at_end}
use Rattle.pgp_core.proofs.script.answer_script.Goals as goal

pub loop-script-init : goal.loop-script-init
loop-script-init g c = record {
  room = lit< tt;
  reads = record { bytes = []; consumed = Consumes-nil _; after = c.new-script.ensures.start _ _ _ };
  reader_kept = refl;
  writer_kept = refl;
}

pub returns-in_err-read_on-clause-err : goal.returns-in_err-read_on-clause-err
returns-in_err-read_on-clause-err g c =
    passed_on _ _ _ _ c.from_residual.ensures.1
    (record {
      stopped = c.in_err-read_on.ensures.err _ _ c.loop-script.invariant.reads;
      failed = (
        rw c.loop-script.invariant.reader_kept at c.in_err-read_on.ensures.reads,
        rw c.loop-script.invariant.writer_kept at c.in_err-read_on.ensures.writes,
      );
    })

pub returns-in_err-finish-clause-err : goal.returns-in_err-finish-clause-err
returns-in_err-finish-clause-err g c =
    let invariant = c.loop-script.invariant in
    passed_on _ _ _ _ c.from_residual-in_err-finish.ensures.1
    (record {
      stopped = stops_at_end _ g.A.Answerer.alone _ c.read_on.new.self _ _ _ _ _ _ (c.in_ok-read_on.ensures.ok _ _ invariant.reads)
          (c.in_ok-read_on.ensures.end (omega (arith, c.if-branch-ne0.false)) invariant.room) c.in_err-finish.ensures.err;
      failed = (
        no_read_failed _ _ _ (c.in_ok-read_on.ensures.reads ∙ invariant.reader_kept),
        rw (c.in_ok-read_on.ensures.writes ∙ invariant.writer_kept) at c.in_err-finish.ensures.failed,
      );
    })

pub returns-clause-ok : goal.returns-clause-ok
returns-clause-ok g c =
    let invariant = c.loop-script.invariant in
    let reads = c.in_ok-read_on.ensures.ok _ _ invariant.reads in
    record {
      script = reads.bytes;
      consumed = reads.consumed;
      ended = c.in_ok-read_on.ensures.end (omega (arith, c.if-branch-ne0.false)) invariant.room;
      done = c.in_ok-finish.ensures.ok _ reads.bytes reads.after;
      quiet = (c.in_ok-read_on.ensures.reads ∙ invariant.reader_kept, c.in_ok-finish.ensures.failed ∙ c.in_ok-read_on.ensures.writes ∙ invariant.writer_kept);
    }

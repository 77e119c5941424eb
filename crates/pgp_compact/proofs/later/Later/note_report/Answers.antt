use Rattle.pgp_compact.proofs.Common.{arith, is_same_number, map, take, written, ◌++◌}
use Rattle.pgp_compact.proofs.LaterLemmas.{noted-next}
use Rattle.pgp_compact.proofs.later.Later.note_report.Goals as goal

pub loop-entry-preserved : goal.loop-entry-preserved
loop-entry-preserved c =
    let entries = c.as_slice-entry-items.result.now in
    let i = c.loop-entry.entry-index in
    let note = written c.args.report.now in record {
      senders = c.loop-entry.invariant.senders;
      starts = c.loop-entry.invariant.starts;
      cleans = c.loop-entry.invariant.cleans;
      all_cleans = c.loop-entry.invariant.all_cleans;
      numbers = λ rest is.
          let noted = c.in_ok-note.ensures (map note (take i entries) ++ rest) (c.loop-entry.invariant.numbers rest is) in
          noted-next is_same_number note entries i c.entry-item.result rest c.note.new.self.table c.loop-entry-test.true c.entry-item.is
          (grind (arith, noted));
    }

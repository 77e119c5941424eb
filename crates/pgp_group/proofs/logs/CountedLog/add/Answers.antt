use Rattle.pgp_group.proofs.Common.{◌≡◌, ◌++◌, ◌∙◌, List, subst, sym, take, take_all, LogEntry, by_number}
use Rattle.pgp_group.proofs.Lists.{append-next}
use Rattle.pgp_group.proofs.logs.CountedLog.add.Goals as goal

pub loop-entry-preserved : goal.loop-entry-preserved
loop-entry-preserved c =
    record {
      member = c.loop-entry.invariant.member;
      stamp = c.loop-entry.invariant.stamp;
      log = λ reported is.
          subst (λ (l : List LogEntry). c.add.new.self.entries ≡ by_number l)
          (sym (append-next reported c.as_slice-entries.result.now c.loop-entry.entry-index c.entry-item.result c.loop-entry-test.true c.entry-item.is))
          (c.in_ok-add.ensures.entries (reported ++ take c.loop-entry.entry-index c.as_slice-entries.result.now) (c.loop-entry.invariant.log reported is));
    }

pub returns-clause-log : goal.returns-clause-log
returns-clause-log c = λ reported is.
    subst (λ (l : List LogEntry). c.loop-entry.self.log.entries ≡ by_number (reported ++ l))
    (take_all c.loop-entry.entry-index c.as_slice-entries.result.now c.loop-entry-test.false ∙ c.as_slice-entries.ensures)
    (c.loop-entry.invariant.log reported is)

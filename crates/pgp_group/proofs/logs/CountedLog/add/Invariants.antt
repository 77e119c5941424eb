use Rattle.pgp_group.proofs.Common.{◌≡◌, ◌++◌, List, take, LogEntry, by_number}
use Rattle.pgp_group.proofs.logs.CountedLog.add.Given as goal

abbrev pub invariant-loop-entry : goal.invariant-loop-entry
invariant-loop-entry l =
    record {
      member : l.self.member ≡ l.initial.self.member;
      stamp : l.self.stamp ≡ l.initial.self.stamp;
      log : (reported : List LogEntry) → l.initial.self.log.entries ≡ by_number reported
          → l.self.log.entries ≡ by_number (reported ++ take l.entry-index l.entries);
    }

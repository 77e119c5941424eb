use Rattle.pgp_group.proofs.Common.{◌≡◌, ℕ, ◌≤◌, ◌++◌, List, true, take, All, Report, GroupLog, counts_by, AreLogsOf, IsPresent}
use Rattle.pgp_group.proofs.logs.Logs.hear.Given as goal

abbrev pub invariant-loop-report : goal.invariant-loop-report
invariant-loop-report l =
    record {
      logs : (g : GroupLog) (before : List Report) → IsPresent g l.map l.first → AreLogsOf g before l.initial.self.of_members.items
          → AreLogsOf g (before ++ take l.report-index l.told) l.self.of_members.items;
      count : (g : GroupLog) (at : ℕ) → IsPresent g l.map l.first → All (λ report. report.stamp ≤ at) l.told
          → All (λ log. counts_by g at log ≡ true) l.initial.self.of_members.items → All (λ log. counts_by g at log ≡ true) l.self.of_members.items;
    }

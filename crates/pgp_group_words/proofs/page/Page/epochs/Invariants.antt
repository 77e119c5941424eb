use Rattle.std.proofs.Common.{◌≡◌, [], take, fold, map}
use Rattle.pgp_group_words.specs.Spans.{epochs_blocked, then_run}
use Rattle.pgp_group_words.proofs.page.Page.epochs.Given as goal

-- the runs so far are those of the intervals so far
abbrev pub invariant-loop-blocking : goal.invariant-loop-blocking
invariant-loop-blocking l = l.runs.items ≡ fold then_run [] (map (epochs_blocked l.fn.self.naming.offset) (take l.blocking-index l.intervals))

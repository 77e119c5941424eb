use Rattle.std.proofs.Common.{◌≡◌, ◌++◌, List, true, map, take}
use Rattle.std.specs.Arc.{arc_value}
use Rattle.pgp_ids.specs.declared.entry.Entry.{Entry}
use Rattle.pgp_log.specs.Log.{is_legal}
use Rattle.pgp_engine.proofs.follower.take_all.Given as goal

abbrev pub invariant-loop-entry : goal.invariant-loop-entry
invariant-loop-entry g l = record {
  taken : (log : List Entry) → g.F.Follower.has_taken log l.initial.follower → is_legal (log ++ map arc_value l.entries) ≡ true
      → g.F.Follower.has_taken (log ++ map arc_value (take l.entry-index l.entries)) l.follower;
  same : g.F.Follower.numbers l.follower ≡ g.F.Follower.numbers l.initial.follower;
}

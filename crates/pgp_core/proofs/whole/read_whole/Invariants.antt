use Rattle.std.proofs.Common.{◌≡◌, ◌-◌, ◌<◌, ◌≤◌, length}
use Rattle.std.specs.Io.KnownBytes.{Consumes}
use Rattle.pgp_core.proofs.whole.read_whole.Given as goal

abbrev pub invariant-loop-count : goal.invariant-loop-count
invariant-loop-count g l = record {
  room : 0 < length l.chunk;
  few : length l.script.items ≤ l.bounds.bytes;
  bytes : Consumes (g.R.Source.state l.initial.reader).remaining (g.R.Source.state l.reader).remaining l.script.items;
  kept : (g.R.Source.state l.reader).failed ≡ (g.R.Source.state l.initial.reader).failed;
}

abbrev pub decreases-loop-count : goal.decreases-loop-count
decreases-loop-count g l = l.bounds.bytes - length l.script.items

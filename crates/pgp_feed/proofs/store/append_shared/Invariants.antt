use Rattle.std.proofs.Common.{◌≡◌, ◌+◌, ◌-◌, ◌≤◌, map, take, length}
use Rattle.std.specs.Prelude.{vec_len, vec_capacity}
use Rattle.std.specs.Arc.{arc_value}
use Rattle.pgp_feed.specs.Appends.{Appends}
use Rattle.pgp_feed.proofs.store.append_shared.Given as goal

abbrev pub invariant-loop-entry : goal.invariant-loop-entry
invariant-loop-entry l = record {
  before : l.before ≡ length l.initial.into.items;
  room : vec_len l.into + (length l.from - l.entry-index) ≤ vec_capacity l.into;
  appended : Appends l.initial.into.items l.into.items (map arc_value (take l.entry-index l.from));
}

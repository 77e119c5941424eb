use Rattle.pgp_shard.proofs.Common.{◌≡◌, false, ℕ, ◌<◌, ◌≤◌, List, [], ◌∷◌, ◌++◌, Some, length, slice_get, Entry, PgId, is_touched, marks_of, AreAllMarked, KeepsMarks, AreKeptOf, AreRowsOf, IsKeptOf, IsStep, ids_of, is_among, KeptGroup}
use Rattle.pgp_ids.specs.declared.entry.Entry.TheVariants as entry
use Rattle.pgp_shard.proofs.groups.Groups.pass_on.Given as goal

abbrev pub invariant-loop-place : goal.invariant-loop-place
invariant-loop-place l = record {
  map : l.self.map ≡ l.initial.self.map;
  places : l.self.places ≡ l.initial.self.places;
  worked : l.self.some_worked_out ≡ l.initial.self.some_worked_out;
  ids : ids_of l.self.kept.items ≡ ids_of l.initial.self.kept.items;
  long : length l.self.kept.items ≡ length l.initial.self.kept.items;
  rows : AreRowsOf l.self.rows.items l.self.kept.items;
  done : (log : List Entry) → AreKeptOf log l.initial.self.kept.items → IsStep log l.inc l.before l.self.map
      → (at : ℕ) (kept : KeptGroup) → at < l.place → slice_get l.self.kept.items at ≡ Some kept → IsKeptOf (log ++ entry.Inc l.inc ∷ []) kept;
  rest : (at : ℕ) → l.place ≤ at → slice_get l.self.kept.items at ≡ slice_get l.initial.self.kept.items at;
  marks : (log : List Entry) → AreKeptOf log l.initial.self.kept.items → IsStep log l.inc l.before l.self.map
      → (pg : PgId) → is_touched log (entry.Inc l.inc) pg ≡ false → is_among pg (marks_of l.self) ≡ is_among pg (marks_of l.initial.self);
  kept : KeepsMarks l.initial.self l.self;
  marked : AreAllMarked l.initial.self.kept.items → AreAllMarked l.self.kept.items;
}

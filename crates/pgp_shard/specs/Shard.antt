-- A shard: the front of the log that it has read, for which groups it answers, and which of these have to be worked out anew
-- (this project's own choice).
use Rattle.std.specs.Prelude.{◌≡◌, ℕ, ◌+◌, ◌%◌, ◌<◌, List, [], ◌∷◌, ◌++◌, length, take, drop, Bool, true, false, ◌&&◌, ◌||◌, not, nat_eq, nat_lt, Option, None, Some, IfSome, is_some, option_map, if◌then◌else◌}
use Rattle.std.specs.List.{filter, list_any}
use Rattle.std.specs.Option.{option_map_or}
use Rattle.pgp_ids.specs.declared.entry.Entry.{Entry}
use Rattle.pgp_ids.specs.declared.pg_id.PgId.{PgId}
use Rattle.pgp_lists.specs.Repeats.{has_repeat}
use Rattle.pgp_map.specs.Pools.{has_group, is_same_group}
use Rattle.pgp_group.specs.Entries.{incs_of}
use Rattle.pgp_group.specs.Touched.{is_touched, view_at}
use Rattle.pgp_group.specs.View.{scratch}
use Rattle.pgp_log.specs.Log.{epoch_of}

-- a group that is kept, and how many entries were read when it was last worked out: 0 where it has to be
pub record WorkedGroup : Type 0 where
  pub pg : PgId
  pub count : ℕ

-- the entries that the shard has read, its number, how many shards there are, and, where it keeps what follows from the entries,
-- its marks, which are the groups that have to be worked out, and its groups with when they were
pub record Shard : Type 0 where
  pub front : List Entry
  pub shard : ℕ
  pub shards : ℕ
  pub marks : Option (List PgId)
  pub worked : List WorkedGroup

-- the shard before it has read anything; it keeps nothing
abbrev pub opening_shard : ℕ → ℕ → Shard
opening_shard shard shards = record { front = []; shard = shard; shards = shards; marks = None; worked = [] }

-- the number of the shard that answers for a group
abbrev pub shard_of : ℕ → PgId → ℕ
shard_of shards pg = (pg.pool + pg.pg) % shards

-- the group is one of this shard's, where there are this many shards
abbrev pub is_own : ℕ → ℕ → PgId → Bool
is_own shard shards pg = nat_eq (shard_of shards pg) shard

-- ---- what a shard has read

-- it is the same shard, and has read the same
pub record HasReadSame (before after : Shard) : Type 0 where
  pub front_is : after.front ≡ before.front
  pub shard_is : after.shard ≡ before.shard
  pub shards_are : after.shards ≡ before.shards

-- the shard that has read one entry more
abbrev pub having_read : Shard → Entry → Shard
having_read s new = record s { front = s.front ++ new ∷ [] }

-- the shard that has read these entries more
abbrev pub having_read_all : Shard → List Entry → Shard
having_read_all s news = record s { front = s.front ++ news }

-- the shard has read some of these entries more, and not all
pub record HasReadSome (s : Shard) (news : List Entry) (after : Shard) : Type 0 where
  pub read : ℕ
  pub fewer : read < length news
  pub after_is : HasReadSame (having_read_all s (take read news)) after

-- the shard that has read this many entries of the log
abbrev pub having_read_front : ℕ → List Entry → Shard → Shard
having_read_front n log s = record s { front = take n log }

-- of the next entries of the log, at most this many, the shard has read the first few, and not all
pub record HasReadFewer (count : ℕ) (log : List Entry) (s after : Shard) : Type 0 where
  pub read : ℕ
  pub fewer : read < length (take count (drop (length s.front) log))
  pub after_is : HasReadSame (having_read_front (length s.front + read) log s) after

-- ---- which of its groups have to be worked out anew

-- the group is one of these
abbrev pub is_among : PgId → List PgId → Bool
is_among pg ids = list_any (is_same_group pg) ids

-- these groups without this one
abbrev pub without_group : PgId → List PgId → List PgId
without_group pg ids = filter (λ other. not (is_same_group pg other)) ids

-- the group is the shard's, and its map has it
abbrev pub has_own : Shard → PgId → Bool
has_own s pg = is_own s.shard s.shards pg && has_group (incs_of s.front) pg

-- the group has to be worked out: it is one of the marks, or any group that the shard has where the marks aren't there
abbrev pub is_marked : Shard → PgId → Bool
is_marked s pg = option_map_or (is_among pg) s.marks (has_own s pg)

-- these are the groups that have to be worked out, each once, in the order of the marks, where these are there
pub record AreMarked (s : Shard) (ids : List PgId) : Type 0 where
  pub each : (pg : PgId) → is_among pg ids ≡ is_marked s pg
  pub once : has_repeat is_same_group ids ≡ false
  pub in_order : IfSome s.marks (λ marks. ids ≡ marks)

-- how many entries were read when the group was last worked out: 0 where it has to be, and where there is no such group
abbrev pub worked_at : List WorkedGroup → PgId → ℕ
worked_at [] pg = 0
worked_at (group ∷ groups) pg = if is_same_group pg group.pg then group.count else worked_at groups pg

-- the entry takes no mark away, and marks only groups that it touches: each other is marked after it just where it was
-- before; the marks stay there, or stay away; and a group that isn't marked after it was last worked out when it was
pub record MarksOnlyTouched (new : Entry) (before after : Shard) : Type 0 where
  pub kept : (pg : PgId) → is_marked before pg ≡ true → is_marked after pg ≡ true
  pub others : (pg : PgId) → is_touched before.front new pg ≡ false → is_marked after pg ≡ is_marked before pg
  pub there : is_some after.marks ≡ is_some before.marks
  pub worked : (pg : PgId) → is_marked after pg ≡ false → worked_at after.worked pg ≡ worked_at before.worked pg

-- marks may have gone, and none came: those groups were worked out by all that was read, and each other was when it was
pub record WorksOutMarks (before after : Shard) : Type 0 where
  pub kept : (pg : PgId) → is_marked after pg ≡ true → is_marked before pg ≡ true
  pub worked : (pg : PgId) → worked_at after.worked pg
      ≡ (if is_marked before pg && not (is_marked after pg) then length before.front else worked_at before.worked pg)

-- the mark of this group is taken away, and of no other; the marks are there
pub record IsUnmarked (pg : PgId) (before after : Shard) : Type 0 where
  pub marked : List PgId
  pub were : AreMarked before marked
  pub left : after.marks ≡ Some (without_group pg marked)

-- this many marks are taken away, or all; the marks are there
pub record AreUnmarked (max : ℕ) (before after : Shard) : Type 0 where
  pub marked : List PgId
  pub were : AreMarked before marked
  pub left : after.marks ≡ Some (drop max marked)

-- ---- which of its groups may have changed since it had read fewer entries

-- the log says of the group what its first n entries say, except for count and epoch, or neither has the group
abbrev pub SaysStill : ℕ → List Entry → PgId → Type 0
SaysStill n log pg = scratch log pg ≡ option_map (view_at (length log) (epoch_of log)) (scratch (take n log) pg)

-- the group may have changed since the shard had read n entries: it has to be worked out, or was when more were read
abbrev pub may_have_changed : Shard → ℕ → PgId → Bool
may_have_changed s n pg = is_marked s pg || nat_lt n (worked_at s.worked pg)

-- these are the groups that may have changed since the shard had read n entries, each once; each other says what it said
pub record HaveChanged (n : ℕ) (s : Shard) (ids : List PgId) : Type 0 where
  pub each : (pg : PgId) → is_among pg ids ≡ may_have_changed s n pg
  pub once : has_repeat is_same_group ids ≡ false
  pub own : (pg : PgId) → is_among pg ids ≡ true → has_own s pg ≡ true
  pub others : (pg : PgId) → is_own s.shard s.shards pg ≡ true → is_among pg ids ≡ false → SaysStill n s.front pg

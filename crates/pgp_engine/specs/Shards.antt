-- A shard that reads the feed, and what it does.
use Rattle.std.specs.Prelude.{◌≡◌, ℕ, ◌+◌, ◌<◌, ◌⊎◌, List, length, Option, is_some, true}
use Rattle.pgp_ids.specs.declared.entry.Entry.{Entry}
use Rattle.pgp_ids.specs.declared.pg_id.PgId.{PgId}
use Rattle.pgp_map.specs.Pools.{has_group}
use Rattle.pgp_group.specs.Entries.{incs_of}
use Rattle.pgp_log.specs.Log.{front, IsFrontOf}
use Rattle.pgp_shard.specs.Shard.{AreUnmarked, HasReadSame, Shard, WorkedGroup, is_own}
use Rattle.pgp_feed.specs.declared.receipt.Receipt.{Receipt}
use Rattle.pgp_feed.specs.Receipts.{entries_of}

-- the entries that the shard has read, its number, how many shards there are, its marks (the groups that have to be worked out,
-- where it keeps what follows from the entries), when its groups were worked out, and the front that its tap gave last
pub record Reader : Type 0 where
  pub front : List Entry
  pub shard : ℕ
  pub shards : ℕ
  pub marks : Option (List PgId)
  pub worked : List WorkedGroup
  pub seen : List Entry

-- all of it but what its tap gave
abbrev pub state_of : Reader → Shard
state_of s = record { front = s.front; shard = s.shard; shards = s.shards; marks = s.marks; worked = s.worked }

-- the group is one of the shard's own
abbrev pub Serves : Reader → PgId → Type 0
Serves s pg = is_own s.shard s.shards pg ≡ true

-- it is the same shard still, and has read and seen no less
pub record GoesOn (old new : Reader) : Type 0 where
  pub shard_is : new.shard ≡ old.shard
  pub shards_are : new.shards ≡ old.shards
  pub front_is : IsFrontOf old.front new.front
  pub seen_is : IsFrontOf old.seen new.seen

-- it is the same shard still, and has read and seen the same
pub record StaysThere (old new : Reader) : Type 0 where
  pub state_is : HasReadSame (state_of old) (state_of new)
  pub seen_is : new.seen ≡ old.seen

-- the shard had read less than its tap gave, or than the caller's receipt names
abbrev pub HadToRead : Reader → Reader → Receipt → Type 0
HadToRead old new q = (length old.front < length new.seen) ⊎ (length old.front < length (entries_of q))

-- the same, or the map has the group, where the shard kept its groups before
abbrev pub LacksThere : Reader → Reader → PgId → Receipt → Type 0
LacksThere old new pg q = is_some old.marks ≡ true → HadToRead old new q ⊎ (has_group (incs_of new.front) pg ≡ true)

-- the shard has read this many entries more, or all that there were: its tap gave a newest front, and it has read that one so
-- far. That front was published at some moment of the call. That it holds all that was published when the call began no clause
-- can say: whoever calls hands in nothing that names it, and the copies of the log tell a reader only of what it saw before
pub record HasAbsorbed (old new : Reader) (max : ℕ) : Type 0 where
  pub newest : List Entry
  pub later : IsFrontOf old.seen newest
  pub within : IsFrontOf newest new.seen
  pub front_is : new.front ≡ front (length old.front + max) newest

-- where the shard has read no more, this many of its marks are taken away, or all
abbrev pub RenewsIfIdle : Reader → Reader → ℕ → Type 0
RenewsIfIdle old new max = new.front ≡ old.front → AreUnmarked max (state_of old) (state_of new)

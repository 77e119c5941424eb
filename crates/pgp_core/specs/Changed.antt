-- Which groups of a log may have changed since it was shorter. This project's own choice.
use Rattle.std.specs.Prelude.{◌≡◌, ℕ, List, true, false}
use Rattle.pgp_ids.specs.declared.entry.Entry.{Entry}
use Rattle.pgp_ids.specs.declared.pg_id.PgId.{PgId}
use Rattle.pgp_lists.specs.Repeats.{has_repeat}
use Rattle.pgp_map.specs.Pools.{has_group, is_same_group}
use Rattle.pgp_group.specs.Entries.{incs_of}
use Rattle.pgp_shard.specs.Shard.{SaysStill, is_among}

-- these are groups that the log's map has, each once; of each other group the log says what its first n entries say, except for
-- count and epoch, or neither has the group
pub record AreAllChanged (n : ℕ) (log : List Entry) (ids : List PgId) : Type 0 where
  pub there : (pg : PgId) → is_among pg ids ≡ true → has_group (incs_of log) pg ≡ true
  pub once : has_repeat is_same_group ids ≡ false
  pub others : (pg : PgId) → is_among pg ids ≡ false → SaysStill n log pg

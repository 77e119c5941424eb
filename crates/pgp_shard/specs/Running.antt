-- What the code of a world keeps of it: of each shard a front of its log.
use Rattle.std.specs.Prelude.{◌≡◌, ℕ, ◌<◌, List, length, get_or}
use Rattle.pgp_ids.specs.declared.entry.Entry.{Entry}
use Rattle.pgp_log.specs.Log.{IsFrontOf}
use Rattle.pgp_shard.specs.Shard.{Shard, opening_shard}

-- the shard of this number, of this many shards, has read a front of the log
pub record IsReading (log : List Entry) (shards n : ℕ) (s : Shard) : Type 0 where
  pub front_is : IsFrontOf s.front log
  pub shard_is : s.shard ≡ n
  pub shards_are : s.shards ≡ shards

-- each shard is reading the log
pub record IsRunning (log : List Entry) (shards : List Shard) : Type 0 where
  pub some : 0 < length shards
  pub each : (n : ℕ) → n < length shards → IsReading log (length shards) n (get_or shards n (opening_shard 0 0))

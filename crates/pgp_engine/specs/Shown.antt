-- What a shard shows of a group, from where it keeps it.
use Rattle.std.specs.Prelude.{◌≡◌, List, length, Option, option_copied, option_map, is_some, true, false}
use Rattle.std.specs.Borrow.{Bor}
use Rattle.pgp_ids.specs.declared.entry.Entry.{Entry}
use Rattle.pgp_ids.specs.declared.pg_id.PgId.{PgId}
use Rattle.pgp_ids.specs.declared.view.View.{View}
use Rattle.pgp_group.specs.Touched.{view_at}
use Rattle.pgp_group.specs.View.{scratch}
use Rattle.pgp_log.specs.Log.{epoch_of, is_legal, IsFrontOf}
use Rattle.pgp_shard.specs.Shard.{is_marked}
use Rattle.pgp_feed.specs.declared.receipt.Receipt.{Receipt}
use Rattle.pgp_feed.specs.Receipts.{entries_of}
use Rattle.pgp_engine.specs.Shards.{Reader, Serves, state_of}

-- the group is one of the shard's own, which keeps its groups, and it needn't be worked out
pub record HasWorkedOut (s : Reader) (pg : PgId) : Type 0 where
  pub serves : Serves s pg
  pub kept : is_some s.marks ≡ true
  pub unmarked : is_marked (state_of s) pg ≡ false

-- the shard has worked out the group by a legal front of the log that holds all that the caller was told of
pub record IsShown (q : Receipt) (pg : PgId) (s : Reader) : Type 0 where
  pub holds : IsFrontOf (entries_of q) s.front
  pub legal : is_legal s.front ≡ true
  pub worked_out : HasWorkedOut s pg

-- the view is, at the front's count and epoch, what the definitions give from scratch on the front; none, where they give none
abbrev pub Shows : List Entry → PgId → Option (Bor View) → Type 0
Shows front pg view = scratch front pg ≡ option_map (view_at (length front) (epoch_of front)) (option_copied view)

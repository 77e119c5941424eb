-- What a shard has read of a front.
use Rattle.std.proofs.Common.{◌≡◌, ℕ, ◌≤◌, ◌<◌, Bool, true, false, inl, inr, List, length, is_some, ap, ap₂, sym, ◌∙◌, subst, arith}
use Rattle.std.proofs.lemmas.Bool.{cases_lt}
use Rattle.std.specs.Prelude.{if◌then◌else◌}
use Rattle.pgp_ids.specs.declared.entry.Entry.{Entry}
use Rattle.pgp_map.specs.Pools.{has_group}
use Rattle.pgp_group.specs.Entries.{incs_of}
use Rattle.pgp_log.specs.Log.{is_legal, IsFrontOf}
use Rattle.pgp_ids.specs.declared.pg_id.PgId.{PgId}
use Rattle.pgp_shard.specs.Shard.{HasReadSame, IsUnmarked, Shard, is_own}
use Rattle.pgp_shard.proofs.ShardLemmas.{unmarked-now}
use Rattle.pgp_feed.specs.declared.receipt.Receipt.{Receipt}
use Rattle.pgp_feed.specs.Receipts.{entries_of}
use Rattle.pgp_engine.specs.Shards.{GoesOn, HadToRead, LacksThere, Reader, Serves}
use Rattle.pgp_engine.specs.Shown.{IsShown}
use Rattle.pgp_engine.proofs.FrontLemmas.{front_same, front_short, receipt_legal}

-- a shard that had read less than a front of the newest one had read less than its tap has given
pub seen_more : (view old new : Reader) (target newest last : Receipt) → view ≡ old → newest ≡ last → IsFrontOf (entries_of last) new.seen
    → length (entries_of target) ≤ length (entries_of newest) → length view.front < length (entries_of target) → length old.front < length new.seen
seen_more view old new target newest last is same seen short less =
    let was : length old.front < length (entries_of target) = subst (λ (s : Reader). length s.front < length (entries_of target)) is less in
    omega (arith, was, short, ap (λ (r : Receipt). length (entries_of r)) same, front_short (entries_of last) new.seen seen)

-- the longer of the newest front and the caller's is longer than what was read only where one of them is
pub had_to_read : (b : Bool) (view old new : Reader) (target newest last q : Receipt) → target ≡ (if b then newest else q)
    → view ≡ old → newest ≡ last → IsFrontOf (entries_of last) new.seen
    → length view.front < length (entries_of target) → HadToRead old new q
had_to_read true view old new target newest last q which is same seen less =
    let size : length (entries_of target) ≡ length (entries_of newest) = ap (λ (r : Receipt). length (entries_of r)) which in
    inl (seen_more view old new target newest last is same seen (omega (arith, size)) less)
had_to_read false view old new target newest last q which is same seen less =
    inr (subst (λ (s : Reader). length s.front < length (entries_of q)) is (subst (λ (r : Receipt). length view.front < length (entries_of r)) which less))

-- out of memory for a group that is worked out by all that was read: where the shard kept its groups before and had nothing to
-- read, the map has the group
pub lacks_there : (b : Bool) (view old read new : Reader) (target newest last q : Receipt) (pg : PgId) → target ≡ (if b then newest else q)
    → view ≡ old → newest ≡ last → IsFrontOf (entries_of last) new.seen → IsFrontOf view.front read.front → read.front ≡ entries_of target
    → (read.front ≡ view.front → read.marks ≡ view.marks) → (is_some read.marks ≡ true → has_group (incs_of read.front) pg ≡ true)
    → new.front ≡ read.front → LacksThere old new pg q
lacks_there b view old read new target newest last q pg which is same seen on whole marks there front kept =
    elim (cases_lt (length view.front) (length (entries_of target))) [
      | inl less ↦ inl (had_to_read b view old new target newest last q which is same seen less)
      | inr few ↦
          let still : read.front ≡ view.front = front_same view.front read.front on (subst (λ (l : List Entry). length l ≤ length view.front) (sym whole) few) in
          inr (subst (λ (l : List Entry). has_group (incs_of l) pg ≡ true) (sym front) (there (ap is_some (marks still ∙ ap (λ (s : Reader). s.marks) is) ∙ kept)))
    ]

-- a shard that has read on has its groups still
pub still_own : (pg : PgId) (read old new : Reader) → read.shard ≡ old.shard → read.shards ≡ old.shards → GoesOn read new
    → Serves old pg → Serves new pg
still_own pg read old new shard shards on serves =
    ap₂ (λ (n m : ℕ). is_own n m pg) (on.shard_is ∙ shard) (on.shards_are ∙ shards) ∙ serves

-- what a shard has seen, however it is named
pub seen_by : (entries : List Entry) (shard named : Reader) → shard ≡ named → IsFrontOf entries named.seen → IsFrontOf entries shard.seen
seen_by entries shard named is = subst (λ (s : Reader). IsFrontOf entries s.seen) (sym is)

-- a group that is worked out by all that was read, which is as long as the caller's front, is shown
pub shown : (q target : Receipt) (pg : PgId) (before after : Shard) (seen : List Entry) → IsFrontOf (entries_of q) (entries_of target)
    → before.front ≡ entries_of target → is_own before.shard before.shards pg ≡ true → HasReadSame before after → IsUnmarked pg before after
    → IsShown q pg (record { front = after.front; shard = after.shard; shards = after.shards; marks = after.marks; worked = after.worked; seen = seen })
shown q target pg before after seen holds whole own same away =
    let is : after.front ≡ entries_of target = same.front_is ∙ whole in
    record {
      holds = subst (λ (l : List Entry). IsFrontOf (entries_of q) l) (sym is) holds;
      legal = subst (λ (l : List Entry). is_legal l ≡ true) (sym is) (receipt_legal target);
      worked_out = record {
        serves = ap₂ (λ (n m : ℕ). is_own n m pg) same.shard_is same.shards_are ∙ own;
        kept = ap is_some away.left;
        unmarked = unmarked-now pg before after away;
      };
    }

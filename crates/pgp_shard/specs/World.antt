-- A world of one log and several shards, each of which has read a front of it and answers for some of the groups (this
-- project's own choice).
use Rattle.std.specs.Prelude.{ℕ, ◌+◌, List, [], ◌∷◌, ◌++◌, length, min, replicate, slice_index, slice_set, Option, Some, None, Result, Ok, Err}
use Rattle.std.specs.declared.alloc.AllocError.{AllocError}
use Rattle.pgp_ids.specs.declared.ask_refusal.AskRefusal.{AskRefusal}
use Rattle.pgp_ids.specs.declared.ask_refusal.AskRefusal.TheVariants.{UnknownGroup}
use Rattle.pgp_ids.specs.declared.entry.Entry.{Entry}
use Rattle.pgp_ids.specs.declared.pg_id.PgId.{PgId}
use Rattle.pgp_ids.specs.declared.refusal.Refusal.{Refusal}
use Rattle.pgp_ids.specs.declared.view.View.{View}
use Rattle.pgp_group.specs.View.{scratch}
use Rattle.pgp_log.specs.Fits.{fits}
use Rattle.pgp_log.specs.Log.{front}
use Rattle.pgp_shard.specs.Shard.{shard_of}

-- the log, and of each shard how many of its entries the shard has read
pub record World : Type 0 where
  pub log : List Entry
  pub read : List ℕ

-- the world of this many shards at its start
abbrev pub opening_world : ℕ → World
opening_world shards = record { log = []; read = replicate shards 0 }

-- the world of this many shards with this log, of which no shard has read an entry
abbrev pub opening_over : ℕ → List Entry → World
opening_over shards log = record (opening_world shards) { log = log }

-- the world whose log has one more entry
abbrev pub with_entry : World → Entry → World
with_entry w entry = record w { log = w.log ++ entry ∷ [] }

-- what a submit is answered, and the world after it: a refused entry changes nothing, another one makes the log longer
abbrev pub submit_reply : World → Option Refusal → Result ℕ Refusal
submit_reply w None = Ok (length w.log + 1)
submit_reply w (Some refusal) = Err refusal

abbrev pub after_submit : World → Entry → Option Refusal → World
after_submit w entry None = with_entry w entry
after_submit w entry (Some refusal) = w

-- the world after a shard has read at most this many further entries; the same one where there is no such shard
abbrev pub after_absorb : World → ℕ → ℕ → World
after_absorb w shard count =
    record w { read = slice_set w.read shard (min (slice_index w.read shard + count) (length w.log)) }

-- what the group's shard has read of the log
abbrev pub front_of : World → PgId → List Entry
front_of w pg = front (slice_index w.read (shard_of (length w.read) pg)) w.log

-- what is answered for a view, or where there is none
abbrev pub view_reply : Option View → Result View AskRefusal
view_reply None = Err UnknownGroup
view_reply (Some view) = Ok view

-- what an ask is answered; it changes nothing
abbrev pub ask_reply : World → PgId → Result View AskRefusal
ask_reply w pg = view_reply (scratch (front_of w pg) pg)

-- one step of a world
pub data Step : Type 0 where
  Submit : Entry → Step
  Absorb : (shard count : ℕ) → Step
  Ask : PgId → Step

-- what a step is answered: the new length of the log or a refusal, that the shard has read, or a view or a refusal
pub data Reply : Type 0 where
  Submitted : Result ℕ Refusal → Reply
  Absorbed : Result (Unit {0}) AllocError → Reply
  Asked : Result View AskRefusal → Reply

abbrev pub reply_to : World → Step → Reply
reply_to w (Submit entry) = Submitted (submit_reply w (fits w.log entry))
reply_to w (Absorb shard count) = Absorbed (Ok tt)
reply_to w (Ask pg) = Asked (ask_reply w pg)

abbrev pub after : World → Step → World
after w (Submit entry) = after_submit w entry (fits w.log entry)
after w (Absorb shard count) = after_absorb w shard count
after w (Ask pg) = w

-- the replies to a list of steps
abbrev pub replies : World → List Step → List Reply
replies w [] = []
replies w (step ∷ steps) = reply_to w step ∷ replies (after w step) steps

-- the world after a list of steps
abbrev pub after_all : World → List Step → World
after_all w [] = w
after_all w (step ∷ steps) = after_all (after w step) steps

-- Runs of a world in which a step may lack memory. Such a step changes nothing, but a shard that was reading may have read
-- the first few of its entries (this project's own choice). An answer by a front without an incremental is never out of memory.
use Rattle.std.specs.Prelude.{◌≡◌, ℕ, ◌<◌, List, [], ◌∷◌, ◌++◌, length, take, drop, slice_index, if◌then◌else◌, ◌⊎◌, Bool, true, false, None, Ok, Err, alloc_error}
use Rattle.pgp_ids.specs.declared.ask_refusal.AskRefusal.TheVariants as ask
use Rattle.pgp_ids.specs.declared.entry.Entry.{Entry}
use Rattle.pgp_ids.specs.declared.refusal.Refusal.TheVariants as refusal
use Rattle.pgp_log.specs.Fits.{fits, is_closed}
use Rattle.pgp_log.specs.Judge.{MapMayLack}
use Rattle.pgp_log.specs.Log.{HasInc}
use Rattle.pgp_shard.specs.World.{World, Step, Reply, reply_to, after, after_absorb, after_all, replies, front_of}
use Rattle.pgp_shard.specs.World.Step.{Submit, Absorb, Ask}
use Rattle.pgp_shard.specs.World.Reply.{Submitted, Absorbed, Asked}

-- the step was done as defined
pub record IsTaken (w : World) (step : Step) (reply : Reply) (next : World) : Type 0 where
  pub reply_is : reply ≡ reply_to w step
  pub next_is : next ≡ after w step

-- the log may lack memory for the entry: it is open, and the entry fits, or is an incremental at which the map may lack it
pub record MayLackForEntry (log : List Entry) (entry : Entry) : Type 0 where
  pub is_open : is_closed log ≡ false
  pub cause : (fits log entry ≡ None) ⊎ MapMayLack log entry

-- the shard has read the first few of the entries that it was to read, perhaps none, and not all
pub record HasReadPart (w : World) (shard count : ℕ) (next : World) : Type 0 where
  pub read : ℕ
  pub fewer : read < length (take count (drop (slice_index w.read shard) w.log))
  pub next_is : next ≡ after_absorb w shard read

-- the step was out of memory
abbrev pub IsWanting : World → Step → Reply → World → Type 0
IsWanting w (Submit entry) reply next = (reply ≡ Submitted (Err refusal.Memory)) × ((next ≡ w) × MayLackForEntry w.log entry)
IsWanting w (Absorb shard count) reply next = (reply ≡ Absorbed (Err alloc_error)) × HasReadPart w shard count next
IsWanting w (Ask pg) reply next = (reply ≡ Asked (Err ask.Memory)) × ((next ≡ w) × HasInc (front_of w pg))

-- the step may be answered so, with this world after it
abbrev pub MayReply : World → Step → Reply → World → Type 0
MayReply w step reply next = IsTaken w step reply next ⊎ IsWanting w step reply next

-- the steps may be answered so, with this world at the end
abbrev pub MayRun : World → List Step → List Reply → World → Type 0
MayRun w [] [] last = last ≡ w
MayRun w [] (reply ∷ given) last = ⊥
MayRun w (step ∷ steps) [] last = ⊥
MayRun w (step ∷ steps) (reply ∷ given) last = (next : World) × (MayReply w step reply next × MayRun next steps given last)

-- the reply is out of memory
abbrev pub is_want : Reply → Bool
is_want (Submitted (Err refusal.Memory)) = true
is_want (Absorbed (Err error)) = true
is_want (Asked (Err ask.Memory)) = true
is_want reply = false

-- what was done at a step that was answered so: a shard that lacked memory read this many entries, and another step that
-- lacked memory did nothing
abbrev pub done_at : Step → Reply → ℕ → List Step
done_at (Absorb shard count) (Absorbed (Err error)) read = Absorb shard read ∷ []
done_at step reply read = if is_want reply then [] else step ∷ []

-- the reply that counts for what was done: that the shard has read, and for another step that lacked memory none
abbrev pub replies_at : Step → Reply → List Reply
replies_at (Absorb shard count) (Absorbed (Err error)) = Absorbed (Ok tt) ∷ []
replies_at step reply = if is_want reply then [] else reply ∷ []

-- what was done at all steps
abbrev pub done_of : List Step → List Reply → List ℕ → List Step
done_of (step ∷ steps) (reply ∷ given) (read ∷ reads) = done_at step reply read ++ done_of steps given reads
done_of steps given reads = []

-- the replies that count for it
abbrev pub replies_of : List Step → List Reply → List Reply
replies_of (step ∷ steps) (reply ∷ given) = replies_at step reply ++ replies_of steps given
replies_of steps given = []

-- a shard that lacked memory read fewer entries than it was to read
abbrev pub IsFewer : Step → Reply → ℕ → Type 0
IsFewer (Absorb shard count) (Absorbed (Err error)) read = read < count
IsFewer step reply read = Unit {0}

-- so it was at each of these steps
abbrev pub AreFewer : List Step → List Reply → List ℕ → Type 0
AreFewer (step ∷ steps) (reply ∷ given) (read ∷ reads) = IsFewer step reply read × AreFewer steps given reads
AreFewer steps given reads = Unit {0}

-- The steps were done as defined, as far as there was memory: of those that lacked it, a shard read fewer entries than it
-- was to, and a submit and an ask are left out.
pub record IsDone (w : World) (steps : List Step) (given : List Reply) (last : World) : Type 0 where
  pub reads : List ℕ
  pub each : length reads ≡ length steps
  pub fewer : AreFewer steps given reads
  pub replies_are : replies_of steps given ≡ replies w (done_of steps given reads)
  pub last_is : last ≡ after_all w (done_of steps given reads)

-- the entry that the log took at this step, by what it was answered
abbrev pub taken_at : Step → Reply → List Entry
taken_at (Submit entry) (Submitted (Ok count)) = entry ∷ []
taken_at step reply = []

-- the entries that the log took
abbrev pub taken_of : List Step → List Reply → List Entry
taken_of [] given = []
taken_of (step ∷ steps) [] = []
taken_of (step ∷ steps) (reply ∷ given) = taken_at step reply ++ taken_of steps given

-- What there is to say of a group, and what would end its waiting.
use Rattle.std.specs.Prelude.{◌≡◌, ℕ, ◌+◌, ◌-◌, ◌^◌, ◌==◌, List, [], ◌∷◌, ◌++◌, Bool, true, false, not, nat_eq, nat_le, min, length, take, map, filter, flat_map, Option, Some, None, All, string_bytes, if◌then◌else◌}
use Rattle.pgp_ids.specs.Incremental.{no_change}
use Rattle.pgp_ids.specs.declared.entry.Entry.{Entry}
use Rattle.pgp_ids.specs.declared.entry.Entry.TheVariants as entry
use Rattle.pgp_ids.specs.declared.incremental.Incremental.{Incremental}
use Rattle.pgp_ids.specs.declared.pg_id.PgId.{PgId}
use Rattle.pgp_ids.specs.declared.refusal.Refusal.{Refusal}
use Rattle.pgp_map.specs.Map.{epoch}
use Rattle.pgp_group.specs.Entries.{incs_of}
use Rattle.pgp_group.specs.GroupLog.{GroupLog, group_in}
use Rattle.pgp_group.specs.View.{scratch}
use Rattle.pgp_log.specs.Fits.{fits}
use Rattle.pgp_reasons.specs.GroupWays.{lost_at_epoch}
use Rattle.pgp_reasons.specs.Price.{price}
use Rattle.pgp_reasons.specs.declared.ways.Ways.{Ways}
use Rattle.pgp_reasons.specs.declared.ways.Ways.TheVariants.{Any, Listed}
use Rattle.pgp_group_words.specs.WaysWords.{says_then}
use Rattle.pgp_group_words.specs.declared.advice.Advice.{Advice}
use Rattle.pgp_group_words.specs.declared.explanation.Explanation.{Explanation}
use Rattle.pgp_group_words.specs.declared.offset.EpochOffset.{EpochOffset}
use Rattle.pgp_group_words.specs.declared.outcome.Outcome.{Outcome}
use Rattle.pgp_group_words.specs.declared.outcome.Then.{Then}
use Rattle.pgp_whole.specs.Explained.{IsExplainedBy}
use Rattle.pgp_whole.specs.declared.choice.Choice.{Choice}

-- ---- what a group is after a way

-- the epoch after this one; none comes after the last, which leads to itself and is refused
abbrev pub next_epoch : ℕ → ℕ
next_epoch epoch = min (epoch + 1) (2 ^ 32 - 1)

-- the incremental to this epoch that boots these devices and declares those lost, and leaves everything else as it is
abbrev pub way_inc : ℕ → (starts losses : List ℕ) → Incremental
way_inc epoch starts losses = record (no_change (epoch - 1) epoch) { up = starts; lost = map (lost_at_epoch epoch) losses }

-- the entry that tells of the way, behind a log
abbrev pub way_entry : List Entry → (starts losses : List ℕ) → Entry
way_entry log starts losses = entry.Inc (way_inc (next_epoch (epoch (incs_of log))) starts losses)

-- this is said of the group by the log
pub record IsSaidBy (log : List Entry) (pg : PgId) (offset : EpochOffset) (after : Then) : Type 0 where
  pub explanation : Explanation
  pub is : IsExplainedBy log pg explanation
  pub verdict_is : after.verdict ≡ explanation.view.verdict
  pub says_is : string_bytes after.says ≡ says_then explanation offset

-- the same, or nothing where the log has no such group
abbrev pub IsToldBy : List Entry → PgId → EpochOffset → Option Then → Type 0
IsToldBy log pg offset None = scratch log pg ≡ None
IsToldBy log pg offset (Some after) = IsSaidBy log pg offset after

-- the same by the log with an entry more, or nothing where that is refused
abbrev pub IsToldUnless : Option Refusal → List Entry → PgId → EpochOffset → Option Then → Type 0
IsToldUnless None log pg offset after = IsToldBy log pg offset after
IsToldUnless (Some why) log pg offset after = after ≡ None

-- this is told of the group after the way, by the log with that entry
abbrev pub IsAfterWay : List Entry → PgId → EpochOffset → (starts losses : List ℕ) → Option Then → Type 0
IsAfterWay log pg offset starts losses after =
    IsToldUnless (fits log (way_entry log starts losses)) (log ++ way_entry log starts losses ∷ []) pg offset after

-- the outcome of a way is so by the log
pub record IsOutcomeOfChoice (log : List Entry) (pg : PgId) (offset : EpochOffset) (outcome : Outcome) : Type 0 where
  pub after_is : IsAfterWay log pg offset outcome.starts outcome.losses outcome.after
  pub price_is : (g : GroupLog) → group_in log pg ≡ Some g → outcome.price ≡ price outcome.starts outcome.losses g

-- ---- which ways are told

-- which devices boot, and which are declared lost
abbrev pub choice_with : (starts losses : List ℕ) → Choice
choice_with starts losses = record { starts = starts; losses = losses }

abbrev pub choice_of : Outcome → Choice
choice_of outcome = choice_with outcome.starts outcome.losses

-- Sets of devices to start: those that are listed; where any so many of some devices will do, each device if one is enough, and
-- else the first so many.
abbrev pub any_sets : ℕ → List ℕ → List (List ℕ)
any_sets least osds = if least == 1 then map (λ osd. osd ∷ []) osds else take least osds ∷ []

abbrev pub told_sets : Ways → List (List ℕ)
told_sets (Any any) = any_sets any.least any.osds
told_sets (Listed listed) = listed.sets

-- all of the set boot
abbrev pub all_start : List ℕ → Choice
all_start set = choice_with set []

-- one of the set is declared lost, and the others boot
abbrev pub one_lost : List ℕ → List Choice
one_lost set = map (λ osd. choice_with (filter (λ other. not (nat_eq other osd)) set) (osd ∷ [])) set

-- all of the set are declared lost, where they are more than one
abbrev pub all_lost : List ℕ → List Choice
all_lost set = if nat_le (length set) 1 then [] else choice_with [] set ∷ []

-- how many ways that declare devices lost are told at most
abbrev pub most_resorts : ℕ
most_resorts = 16

-- those of these sets: first the ones that lose one device
abbrev pub resorts : List (List ℕ) → List Choice
resorts sets = take most_resorts (flat_map one_lost sets ++ flat_map all_lost sets)

-- these are the outcomes of these choices
pub record AreOutcomes (log : List Entry) (pg : PgId) (offset : EpochOffset) (choices : List Choice) (outcomes : List Outcome) : Type 0 where
  pub choices_are : map choice_of outcomes ≡ choices
  pub each : All (IsOutcomeOfChoice log pg offset) outcomes

-- and these are those of the ways that declare devices of these sets lost, where these are wanted
abbrev pub AreResorts : Bool → List Entry → PgId → EpochOffset → List (List ℕ) → Option (List Outcome) → Type 0
AreResorts losses log pg offset sets None = losses ≡ false
AreResorts losses log pg offset sets (Some outcomes) = (losses ≡ true) × AreOutcomes log pg offset (resorts sets) outcomes

-- this is what there is to say of the group by the log, with ways that declare devices lost if these are wanted
pub record IsAdvice (log : List Entry) (pg : PgId) (losses : Bool) (offset : EpochOffset) (advice : Advice) : Type 0 where
  pub explained : IsExplainedBy log pg advice.explanation
  pub ways_are : AreOutcomes log pg offset (map all_start (told_sets advice.explanation.reasons.ways)) advice.ways
  pub resorts_are : AreResorts losses log pg offset (told_sets advice.explanation.reasons.ways) advice.last_resort

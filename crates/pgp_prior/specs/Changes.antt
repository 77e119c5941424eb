-- How the statuses of one device may change, and which of its past intervals have to be judged anew then.
use Rattle.std.specs.Prelude.{◌≡◌, ℕ, List, Bool, true, false, not, Contains}
use Rattle.pgp_ids.specs.declared.member.Member.{Member}
use Rattle.pgp_ids.specs.declared.past.Past.{Past}
use Rattle.pgp_sets.specs.declared.status.Status.{Status}
use Rattle.pgp_sets.specs.declared.status.Status.TheVariants.{Up, Gone, Lost, Down}
use Rattle.pgp_prior.specs.declared.judged_interval.Change.{Change}
use Rattle.pgp_prior.specs.declared.judged_interval.Change.TheVariants as change
use Rattle.pgp_prior.specs.Better.{is_no_worse}
use Rattle.pgp_prior.specs.Members.{members_of}

-- the status stayed, or a device that was up is so no more, or one that was lost is down or gone
abbrev pub is_no_better : Status → Status → Bool
is_no_better Up new = true
is_no_better Gone Gone = true
is_no_better Lost Gone = true
is_no_better Lost Lost = true
is_no_better Lost Down = true
is_no_better Down Down = true
is_no_better _ _ = false

-- the status stayed, or a device that was lost or down is gone
abbrev pub is_same_or_gone : Status → Status → Bool
is_same_or_gone Up Up = true
is_same_or_gone Gone Gone = true
is_same_or_gone Lost Gone = true
is_same_or_gone Lost Lost = true
is_same_or_gone Down Gone = true
is_same_or_gone Down Down = true
is_same_or_gone _ _ = false

-- no status is better than it was
abbrev pub IsNoBetter : (ℕ → ℕ → Status) → (ℕ → ℕ → Status) → Type 0
IsNoBetter old new = (osd first : ℕ) → is_no_better (old osd first) (new osd first) ≡ true

-- a change of this kind may change the first status to the second
abbrev pub allows : Change → Status → Status → Bool
allows change.Better = is_no_worse
allows change.Worse = is_no_better
allows change.Gone = is_same_or_gone

-- after a change of this kind an interval of the device that blocks, or one that doesn't, is judged anew
abbrev pub rechecks : Change → Bool → Bool
rechecks change.Better blocks = blocks
rechecks change.Worse blocks = not blocks
rechecks change.Gone blocks = true

-- of the acting members of the interval the device alone changes, as is allowed, to the status that is told of it
pub record IsChangeIn (allowed : Status → Status → Bool) (by_place : Bool) (osd : ℕ) (told old new : ℕ → ℕ → Status) (interval : Past) : Type 0 where
  pub of_it : (member : Member) → Contains (members_of by_place interval.members.acting) member → member.osd ≡ osd → new osd interval.first ≡ told osd interval.first
  pub allowed_of_it : (member : Member) → Contains (members_of by_place interval.members.acting) member → member.osd ≡ osd → allowed (old osd interval.first) (new osd interval.first) ≡ true
  pub of_others : (member : Member) → Contains (members_of by_place interval.members.acting) member → (member.osd ≡ osd → ⊥) → new member.osd interval.first ≡ old member.osd interval.first

-- the same in each past interval
abbrev pub IsChange : (Status → Status → Bool) → Bool → ℕ → (ℕ → ℕ → Status) → (ℕ → ℕ → Status) → (ℕ → ℕ → Status) → List Past → Type 0
IsChange allowed by_place osd told old new past =
    (interval : Past) → Contains past interval → IsChangeIn allowed by_place osd told old new interval

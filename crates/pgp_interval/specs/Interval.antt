-- What an interval is, and what the intervals of a history are together.
use Rattle.std.specs.Prelude.{◌≡◌, ◌≢◌, ℕ, ◌+◌, ◌<◌, ◌≤◌, List, [], ◌∷◌, Bool, All, Contains}
use Rattle.pgp_ids.specs.declared.membership.Membership.{Membership}
use Rattle.pgp_ids.specs.declared.past.Past.{Past}
use Rattle.pgp_interval.specs.History.{History, last_place, state_at, members_at}
use Rattle.pgp_interval.specs.ReadWrite.{may_have_gone_rw}
use Rattle.pgp_interval.specs.Runs.{current_first}

-- a maximal run: one membership from the place `first` to the place `last`, and another one on either side
pub record IsInterval {C : Type 0} (h : History C) (first last : ℕ) : Type 0 where
  pub ordered : first ≤ last
  pub within : last ≤ last_place h
  pub equal : (place : ℕ) → first ≤ place → place ≤ last → members_at h place ≡ members_at h last
  pub before : (place : ℕ) → place + 1 ≡ first → members_at h place ≢ members_at h first
  pub after : last < last_place h → members_at h (last + 1) ≢ members_at h last

-- p tells of the interval from `first` to `last`, which ended before the current epoch, of a group that was clean in these
-- epochs
pub record TellsOf {C : Type 0} (enough : C → List ℕ → Bool) (by_place : C → Bool) (cleans : List ℕ) (h : History C) (p : Past) (first last : ℕ) : Type 0 where
  pub interval : IsInterval h first last
  pub over : last < last_place h
  pub opened : p.first ≡ h.first + first
  pub ended : p.last ≡ h.first + last
  pub members : p.members ≡ members_at h last
  pub rw : p.rw ≡ may_have_gone_rw (enough h.code) (by_place h.code) cleans (state_at h last) p.first p.last

-- each of the past intervals is an interval that is over
abbrev pub EachIsOver : {C : Type 0} → (C → List ℕ → Bool) → (C → Bool) → List ℕ → History C → List Past → Type 0
EachIsOver enough by_place cleans h past =
    All (λ p. (first : ℕ) × ((last : ℕ) × TellsOf enough by_place cleans h p first last)) past

-- each interval that is over is among the past ones
abbrev pub HasEachOver : {C : Type 0} → (C → List ℕ → Bool) → (C → Bool) → List ℕ → History C → List Past → Type 0
HasEachOver enough by_place cleans h past =
    (first last : ℕ) → IsInterval h first last → last < last_place h
    → (p : Past) × Contains past p × TellsOf enough by_place cleans h p first last

-- the membership that follows: that of the next past interval, or the current one
abbrev pub next_members : {C : Type 0} → History C → List Past → Membership
next_members h [] = h.current
next_members h (p ∷ past) = p.members

-- from the epoch `from` on the past intervals and the current one lie end to end, and neighbours differ
abbrev pub LieEndToEnd : {C : Type 0} → History C → ℕ → List Past → Type 0
LieEndToEnd h from [] = current_first h ≡ from
LieEndToEnd h from (p ∷ past) =
    (p.first ≡ from) × (p.first ≤ p.last) × (p.members ≢ next_members h past) × LieEndToEnd h (p.last + 1) past

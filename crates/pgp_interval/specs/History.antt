-- The history of a placement group: from its first epoch on, an epoch after another, its membership and what the map
-- of that epoch says of its acting primary. The place i stands for the epoch first + i.
use Rattle.std.specs.Prelude.{ℕ, List, [], ◌∷◌, ◌++◌, length, map, replicate, slice_index_or}
use Rattle.pgp_ids.specs.declared.membership.Membership.{Membership}
use Rattle.pgp_ids.specs.declared.history.EpochState.{EpochState}
use Rattle.pgp_ids.specs.declared.history.PrimaryFacts.{PrimaryFacts}

-- `lived` are the epochs before the current one, in order
pub record History (C : Type 0) : Type 0 where
  pub code : C
  pub first : ℕ
  pub lived : List EpochState
  pub current : Membership

-- the history of one epoch
abbrev pub begun : {C : Type 0} → C → ℕ → Membership → History C
begun code first members = record { code = code; first = first; lived = []; current = members }

-- the history with some epochs more, all of the current membership; each of the facts completes one epoch, the one that was
-- current first
abbrev pub stayed : {C : Type 0} → History C → List PrimaryFacts → History C
stayed h told =
    let lasting : PrimaryFacts → EpochState = λ facts. record { members = h.current; facts = facts } in
    record h { lived = h.lived ++ map lasting told }

-- the history with a later epoch, which passes over this many epochs: they have the membership that was current, and the facts
-- complete each of them and the one that was current
abbrev pub grown : {C : Type 0} → History C → ℕ → Membership → PrimaryFacts → History C
grown h passed members facts =
    let ended : EpochState = record { members = h.current; facts = facts } in
    record h { lived = h.lived ++ ended ∷ replicate passed ended; current = members }

-- the history with the next epoch; the facts complete the one that was current
abbrev pub stepped : {C : Type 0} → History C → Membership → PrimaryFacts → History C
stepped h members facts = grown h 0 members facts

-- the place of the current epoch
abbrev pub last_place : {C : Type 0} → History C → ℕ
last_place h = length h.lived

-- the current epoch; the facts of its primary come with the next incremental, and stand as 0 until then
abbrev pub current_state : {C : Type 0} → History C → EpochState
current_state h = record { members = h.current; facts = record { up_from = 0; up_thru = 0 } }

-- the epoch at this place; past the last one, the current epoch
abbrev pub state_at : {C : Type 0} → History C → ℕ → EpochState
state_at h place = slice_index_or h.lived place (current_state h)

-- the membership at this place
abbrev pub members_at : {C : Type 0} → History C → ℕ → Membership
members_at h place = (state_at h place).members

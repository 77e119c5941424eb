-- Whether a placement group may have gone read-write in a past interval, as in Ceph: by what the map of its last epoch
-- records (its developer documentation on peering: past intervals, up_thru), or because the group was clean in one of its
-- epochs (PastIntervals::check_new_interval). That any info may name such an epoch, at any time, is this project's own rule.
use Rattle.std.specs.Prelude.{ℕ, List, [], ◌∷◌, Option, None, Bool, true, false, ◌&&◌, ◌||◌, length, is_some, nat_le, nat_lt, filter, slice_index_or, if◌then◌else◌}
use Rattle.std.specs.List.{list_any, range_with_len}
use Rattle.pgp_ids.specs.Osds.{osd_count}
use Rattle.pgp_ids.specs.declared.history.EpochState.{EpochState}
use Rattle.pgp_ids.specs.declared.history.PrimaryFacts.{PrimaryFacts}
use Rattle.pgp_ids.specs.declared.membership.Membership.{Membership}

-- the places that hold a device, in ascending order
abbrev pub held_places : List (Option ℕ) → List ℕ
held_places places = filter (λ place. is_some (slice_index_or places place None)) (range_with_len 0 (length places))

-- the slots of an acting list: its places that hold a device, or slot 0 alone for whole copies
abbrev pub acting_slots : Bool → List (Option ℕ) → List ℕ
acting_slots true acting = held_places acting
acting_slots false acting = if nat_lt 0 (osd_count acting) then 0 ∷ [] else []

-- these members could serve writes: acting has min_size members and a primary, and its slots are enough for the code
abbrev pub can_write : (List ℕ → Bool) → Bool → Membership → Bool
can_write enough by_place members =
    nat_le members.min_size (osd_count members.acting)
    && is_some members.acting_primary
    && enough (acting_slots by_place members.acting)

-- the primary, up from the epoch `first` on at the latest, was recorded as up then
abbrev pub is_recorded : PrimaryFacts → ℕ → Bool
is_recorded facts first = nat_le first facts.up_thru && nat_le facts.up_from first

-- the group was clean in an epoch from `first` to `last`. The cleans are the epochs that infos name as last_epoch_clean: the
-- last epoch in which all copies of the group were complete and in place (Ceph: pg_history_t::last_epoch_clean)
abbrev pub was_clean : List ℕ → ℕ → ℕ → Bool
was_clean cleans first last = list_any (λ clean. nat_le first clean && nat_le clean last) cleans

-- the group may have gone read-write in the interval from the epoch `first` to the epoch `last`, which ended with this state:
-- its members could serve writes, and either the primary was recorded as up or the group was clean in one of its epochs
abbrev pub may_have_gone_rw : (List ℕ → Bool) → Bool → List ℕ → EpochState → ℕ → ℕ → Bool
may_have_gone_rw enough by_place cleans state first last =
    can_write enough by_place state.members && (is_recorded state.facts first || was_clean cleans first last)

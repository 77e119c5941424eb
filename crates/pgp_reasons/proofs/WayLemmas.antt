-- What an incremental that boots devices, or gives them up for lost, makes of their statuses.
use Rattle.std.proofs.Common.{◌≡◌, ℕ, ◌<◌, ◌≤◌, List, [], ◌∷◌, ◌++◌, Option, None, Bool, true, false, cond, nat_eq, nat_lt, refl, ap, sym, ◌∙◌, subst, inl, inr, arith}
use Rattle.std.specs.List.{Contains, list_any, flat_map}
use Rattle.std.specs.Option.{option_map_or}
use Rattle.std.proofs.lemmas.Bool.{cases_Bool}
use Rattle.std.proofs.lemmas.Bool.Decides.{nat_tests}
use Rattle.pgp_code.specs.AnyCode.{enough_of, enough_of-mono, is_by_place}
use Rattle.pgp_ids.specs.declared.entry.Entry.TheVariants as entry
use Rattle.pgp_ids.specs.declared.incremental.DeviceEpoch.{DeviceEpoch}
use Rattle.pgp_ids.specs.declared.incremental.Incremental.{Incremental}
use Rattle.pgp_lists.proofs.Last.{last_where-found, last_where-some}
use Rattle.pgp_lists.proofs.Lists.{any-mapped, any-same, flat_map-push, none-each}
use Rattle.pgp_lists.proofs.Members.{any-agree, none-contains, map-contains, contains-append}
use Rattle.pgp_lists.proofs.Options.{if_none, none_is, some_is}
use Rattle.pgp_lists.proofs.Taken.{taken-induction}
use Rattle.pgp_lists.specs.Last.{last_where}
use Rattle.pgp_map.specs.Checked.{are_checked, is_faultless}
use Rattle.pgp_map.specs.Devices.{boots, exists, is_up, lost_at, last_epoch_of}
use Rattle.pgp_map.specs.Map.{epoch}
use Rattle.pgp_map.specs.MapFault.{map_fault, then_with, has_ahead}
use Rattle.pgp_map.proofs.CheckedLemmas.{front-checked, last-checked}
use Rattle.pgp_prior.specs.Blocks.{blocks}
use Rattle.pgp_prior.proofs.BetterLemmas.{blocks-same}
use Rattle.pgp_sets.specs.Status.{status, status_by}
use Rattle.pgp_sets.specs.declared.status.Status.TheVariants.{Up}
use Rattle.pgp_group.specs.GroupLog.{GroupLog, cleans, incs}
use Rattle.pgp_group.specs.Heard.{les}
use Rattle.pgp_group.specs.Later.{IsAfter}
use Rattle.pgp_group.specs.Peering.{past, prior}
use Rattle.pgp_group.specs.Reckoning.{TakesNothingAway}
use Rattle.pgp_group.proofs.DeviceLemmas.{last_where-later}
use Rattle.pgp_group.proofs.GrowthLemmas.{epoch-snoc, later_epoch}
use Rattle.pgp_group.proofs.LaterLemmas.{histories}
use Rattle.pgp_group.proofs.Lists.{last_where-none}
use Rattle.pgp_group.proofs.OpeningLemmas.{opened}
use Rattle.pgp_group.proofs.ReliefLemmas.{down_by, down-after, up-still, exists-still, up-booted}
use Rattle.pgp_reasons.specs.GroupWays.{is_down_with, lost_at_epoch, GoesWay}
use Rattle.pgp_reasons.specs.Ways.{given_up, status_after}

-- ---- when a device was given up for lost

no_ahead : (incs : List Incremental) (inc : Incremental) → map_fault incs inc ≡ None → has_ahead inc ≡ false
unfolding map_fault
no_ahead incs inc fine = grind (arith, if_none)

-- the epoch that was told last of a device is one that was told, or none was
told-new : (old new : List DeviceEpoch) (osd : ℕ) → list_any (λ told. nat_eq told.osd osd) new ≡ true → (entry : DeviceEpoch) × (Contains new entry × (last_epoch_of (old ++ new) osd ≡ entry.epoch))
told-new old new osd some =
    let test : DeviceEpoch → Bool = λ told. nat_eq told.osd osd in
    let last = some_is (last_where test new) (last_where-some test new ∙ some) in (
      last.0,
      (
        (last_where-found test new last.0 last.1).0,
        ap (λ (o : Option DeviceEpoch). option_map_or (λ told. told.epoch) o 0) (last_where-later test old new some ∙ last.1),
      ),
    )

told-old : (old new : List DeviceEpoch) (osd : ℕ) → list_any (λ told. nat_eq told.osd osd) new ≡ false → last_epoch_of (old ++ new) osd ≡ last_epoch_of old osd
told-old old new osd none = ap (λ (o : Option DeviceEpoch). option_map_or (λ told. told.epoch) o 0) (last_where-none (λ (told : DeviceEpoch). nat_eq told.osd osd) old new none)

lost_at-snoc : (incs : List Incremental) (inc : Incremental) (osd : ℕ) → lost_at (then_with incs inc) osd ≡ last_epoch_of (flat_map (λ (i : Incremental). i.lost) incs ++ inc.lost) osd
lost_at-snoc incs inc osd = ap (λ told. last_epoch_of told osd) (flat_map-push (λ (i : Incremental). i.lost) incs inc)

-- no device was given up for lost at a later epoch than the last
lost_at-within : (osd : ℕ) (incs : List Incremental) → are_checked incs ≡ true → lost_at incs osd ≤ epoch incs
lost_at-within osd =
    taken-induction is_faultless (λ (incs : List Incremental). lost_at incs osd ≤ epoch incs) (omega arith)
    (λ incs inc checked fine within. step incs inc (none_is (map_fault incs inc) fine) within)
  where
    step : (incs : List Incremental) (inc : Incremental) → map_fault incs inc ≡ None → lost_at incs osd ≤ epoch incs → lost_at (then_with incs inc) osd ≤ epoch (then_with incs inc)
    step incs inc fine within =
        let before : List DeviceEpoch = flat_map (λ (i : Incremental). i.lost) incs in
        elim (cases_Bool (list_any (λ (told : DeviceEpoch). nat_eq told.osd osd) inc.lost)) [
          | inl some ↦
              let new = told-new before inc.lost osd some in
              let ahead : nat_lt inc.epoch new.0.epoch ≡ false =
              none-contains (λ (e : DeviceEpoch). nat_lt inc.epoch e.epoch) (inc.up_thru ++ inc.lost) new.0 (no_ahead incs inc fine) (contains-append inc.up_thru inc.lost new.0 (inr new.1.0)) in
              let below : new.0.epoch ≤ inc.epoch = grind (arith, nat_tests) in
              omega (arith, lost_at-snoc incs inc osd, new.1.1, below, epoch-snoc incs inc)
          | inr none ↦
              omega (arith, lost_at-snoc incs inc osd, told-old before inc.lost osd none, within, epoch-snoc incs inc, later_epoch incs inc fine)
        ]

-- ---- tests of lists

-- a device is one of a list, from either side
any-other : (osd : ℕ) (osds : List ℕ) → list_any (nat_eq osd) osds ≡ list_any (λ o. nat_eq o osd) osds
any-other osd osds = any-same (nat_eq osd) (λ o. nat_eq o osd) osds (λ o. grind (arith, nat_tests))

-- ---- the statuses after the incremental

-- a device that is given up for lost after the interval began is lost, where it was down
given-up : (up there : Bool) (old new first : ℕ) → nat_lt first new ≡ true → status_by up there new first ≡ given_up (status_by up there old first)
given-up true there old new first later = refl
given-up false false old new first later = refl
given-up false true old new first later = elim (cases_Bool (nat_lt first old)) [
  | inl lost ↦ rw (later, lost) refl
  | inr down ↦ rw (later, down) refl
]

module _ (starts losses : List ℕ) (incs : List Incremental) (inc : Incremental) (goes : GoesWay starts losses inc) where
  nothing-away : map_fault incs inc ≡ None → are_checked incs ≡ true → TakesNothingAway incs inc
  nothing-away fine checked =
      record {
        down = goes.down;
        gone = goes.gone;
        lost = ap (list_any (λ (told : DeviceEpoch). nat_lt told.epoch (lost_at incs told.osd))) goes.lost
            ∙ any-mapped (lost_at_epoch inc.epoch) (λ (told : DeviceEpoch). nat_lt told.epoch (lost_at incs told.osd)) losses
            ∙ none-each (λ (osd : ℕ). nat_lt inc.epoch (lost_at incs osd)) losses (λ n osd is. not_below osd);
      }
    where
      not_below : (osd : ℕ) → nat_lt inc.epoch (lost_at incs osd) ≡ false
      not_below osd =
          let within : lost_at incs osd ≤ epoch incs = lost_at-within osd incs checked in
          let next : epoch incs < inc.epoch = later_epoch incs inc fine in
          grind (arith, nat_tests)

  module _ (nothing : TakesNothingAway incs inc) (osd first : ℕ) (later : first < inc.epoch) where
    abbrev before : List DeviceEpoch
    before = flat_map (λ (i : Incremental). i.lost) incs

    told : list_any (λ (t : DeviceEpoch). nat_eq t.osd osd) inc.lost ≡ list_any (nat_eq osd) losses
    told = ap (list_any (λ (t : DeviceEpoch). nat_eq t.osd osd)) goes.lost ∙ any-mapped (lost_at_epoch inc.epoch) (λ (t : DeviceEpoch). nat_eq t.osd osd) losses ∙ sym (any-other osd losses)

    -- of a device that doesn't boot, what is told of its losses says all
    of-lost : (at : ℕ) → lost_at (then_with incs inc) osd ≡ at → boots osd inc ≡ false
        → status (then_with incs inc) osd first ≡ status_by (is_up incs osd) (exists incs osd) at first
    of-lost at lost down = λ i. status_by (up-still incs inc osd nothing down i) (exists-still incs inc osd nothing down i) (lost i) first

    not_started : boots osd inc ≡ false → status (then_with incs inc) osd first ≡ cond (list_any (nat_eq osd) losses) (given_up (status incs osd first)) (status incs osd first)
    not_started down = elim (cases_Bool (list_any (nat_eq osd) losses)) [
      | inl one ↦
          let new = told-new before inc.lost osd (told ∙ one) in
          let entry' = map-contains (lost_at_epoch inc.epoch) losses new.0 (subst (λ (l : List DeviceEpoch). Contains l new.0) goes.lost new.1.0) in
          let lost : lost_at (then_with incs inc) osd ≡ inc.epoch = lost_at-snoc incs inc osd ∙ new.1.1 ∙ ap (λ (t : DeviceEpoch). t.epoch) (sym entry'.1.1) in
          let since : nat_lt first inc.epoch ≡ true = grind (arith, nat_tests) in
          of-lost inc.epoch lost down
          ∙ given-up (is_up incs osd) (exists incs osd) (lost_at incs osd) inc.epoch first since
          ∙ sym (ap (λ (b : Bool). cond b (given_up (status incs osd first)) (status incs osd first)) one)
      | inr none ↦
          of-lost (lost_at incs osd) (lost_at-snoc incs inc osd ∙ told-old before inc.lost osd (told ∙ none)) down
          ∙ sym (ap (λ (b : Bool). cond b (given_up (status incs osd first)) (status incs osd first)) none)
    ]

    after-way : status (then_with incs inc) osd first ≡ status_after starts losses (status incs) osd first
    after-way = elim (cases_Bool (list_any (nat_eq osd) starts)) [
      | inl one ↦
          let booting : boots osd inc ≡ true = ap (list_any (nat_eq osd)) goes.up ∙ one in
          ap (λ (b : Bool). status_by b (exists (then_with incs inc) osd) (lost_at (then_with incs inc) osd) first) (up-booted incs inc osd booting)
          ∙ sym (ap (λ (b : Bool). cond b Up (cond (list_any (nat_eq osd) losses) (given_up (status incs osd first)) (status incs osd first))) one)
      | inr none ↦
          not_started (ap (list_any (nat_eq osd)) goes.up ∙ none)
          ∙ sym (ap (λ (b : Bool). cond b Up (cond (list_any (nat_eq osd) losses) (given_up (status incs osd first)) (status incs osd first))) none)
    ]

-- ---- the law

pub brought_back : (starts losses : List ℕ) (g after : GroupLog) (inc : Incremental) → IsAfter g (entry.Inc inc ∷ []) after → GoesWay starts losses inc → (prior after).down ≡ is_down_with starts losses g
brought_back starts losses g after inc is goes =
    let hs = histories g (entry.Inc inc ∷ []) after is in
    let fine = last-checked (incs g) inc hs.checked in
    let checked = front-checked (incs g) (inc ∷ []) hs.checked in
    let nothing : TakesNothingAway (incs g) inc = nothing-away starts losses (incs g) inc goes fine checked in
    let open' = opened g.pg (incs g) checked g.history hs.before in
    let next : epoch (incs g) < inc.epoch = later_epoch (incs g) inc fine in
    down-after g after inc is nothing
    ∙ ap (λ (l : List Incremental). down_by g.history.code l (les g) (past g)) hs.incs_are
    ∙ any-agree
    (blocks (enough_of g.history.code) (is_by_place g.history.code) (status (then_with (incs g) inc)) (les g))
    (blocks (enough_of g.history.code) (is_by_place g.history.code) (status_after starts losses (status (incs g))) (les g)) (past g)
    (λ p in'.
    let began : p.first < inc.epoch = omega (arith, open'.later (cleans g) p in', open'.within, next) in
    blocks-same (is_by_place g.history.code) (enough_of g.history.code) (enough_of-mono g.history.code) (les g) (status (then_with (incs g) inc)) (status_after starts losses (status (incs g))) p
    (λ m acts. after-way starts losses (incs g) inc goes nothing m.osd p.first began))

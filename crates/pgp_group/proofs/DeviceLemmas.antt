-- What one more incremental does to what is known of a device.
use Rattle.pgp_group.proofs.Common.{◌≡◌, ℕ, ◌≤◌, List, ◌++◌, None, Bool, true, false, nat_eq, nat_lt, ap, sym, ◌∙◌, inl, inr, arith, list_any, cases_Bool, eqb-true, nat_tests, DeviceEpoch, Incremental, last_found, last_where-append, last_where-some, flat_map-push, if_none, none_is, some_is, taken-induction, are_checked, is_faultless, boots, is_up, up_from, lost_at, last_epoch_of, greatest_epoch, last_where, epoch, then_with, has_already_up}
use Rattle.pgp_map.specs.MapFault.{map_fault}
use Rattle.pgp_group.proofs.GrowthLemmas.{epoch-snoc, later_epoch}
use Rattle.pgp_group.proofs.LaterLemmas.{up_from-snoc}
use Rattle.pgp_group.proofs.Lists.{last_where-none, left_new, none-narrower, last_or-any}

-- ---- since when a device is up

no_already_up : (incs : List Incremental) (inc : Incremental) → map_fault incs inc ≡ None → has_already_up incs inc ≡ false
unfolding map_fault
no_already_up incs inc fine = grind (arith, if_none)

-- a device that is up doesn't boot
pub not_booted : (incs : List Incremental) (inc : Incremental) (osd : ℕ) → map_fault incs inc ≡ None → is_up incs osd ≡ true → boots osd inc ≡ false
not_booted incs inc osd fine up =
    none-narrower (nat_eq osd) (is_up incs) (λ (k : ℕ) same. ap (is_up incs) (sym (eqb-true osd k same)) ∙ up) inc.up (no_already_up incs inc fine)

pub up_from-stays : (incs : List Incremental) (inc : Incremental) (osd : ℕ) → map_fault incs inc ≡ None → is_up incs osd ≡ true → up_from (then_with incs inc) osd ≡ up_from incs osd
up_from-stays incs inc osd fine up = ap greatest_epoch (left_new (boots osd) incs inc (not_booted incs inc osd fine up))

-- no device booted after the last epoch
pub up_from-within : (osd : ℕ) (incs : List Incremental) → are_checked incs ≡ true → up_from incs osd ≤ epoch incs
up_from-within osd =
    taken-induction is_faultless (λ (incs : List Incremental). up_from incs osd ≤ epoch incs) (omega arith)
    (λ incs inc checked fine within. step incs inc (none_is (map_fault incs inc) fine) within)
  where
    step : (incs : List Incremental) (inc : Incremental) → map_fault incs inc ≡ None → up_from incs osd ≤ epoch incs → up_from (then_with incs inc) osd ≤ epoch (then_with incs inc)
    step incs inc fine within = grind (arith, cases_Bool (boots osd inc), up_from-snoc incs inc osd, epoch-snoc incs inc, later_epoch incs inc fine)

-- ---- epochs that are told of a device

pub last_where-later : {X : Type 0} (test : X → Bool) (xs ys : List X) → list_any test ys ≡ true → last_where test (xs ++ ys) ≡ last_where test ys
last_where-later test xs ys some = last_where-append test xs ys ∙ last_or-any test (last_where test xs) None ys some

-- an epoch that is told of a device doesn't fall, where none that is told is below the one before
last_epoch_of-rises : (old new : List DeviceEpoch) (osd : ℕ) → list_any (λ told. nat_lt told.epoch (last_epoch_of old told.osd)) new ≡ false → last_epoch_of old osd ≤ last_epoch_of (old ++ new) osd
last_epoch_of-rises old new osd none =
    let test : DeviceEpoch → Bool = λ told. nat_eq told.osd osd in
    elim (cases_Bool (list_any test new)) [
      | inl some ↦
          let last = some_is (last_where test new) (last_where-some test new ∙ some) in
          let found = last_found (λ (told : DeviceEpoch). nat_lt told.epoch (last_epoch_of old told.osd)) test new last.0 none last.1 in
          grind (arith, eqb-true last.0.osd osd found.0, last_where-later test old new some, nat_tests)
      | inr silent ↦ grind (arith, nat_tests, last_where-none)
    ]

pub lost_at-rises : (incs : List Incremental) (inc : Incremental) (osd : ℕ) → list_any (λ told. nat_lt told.epoch (lost_at incs told.osd)) inc.lost ≡ false → lost_at incs osd ≤ lost_at (then_with incs inc) osd
lost_at-rises incs inc osd none = search (flat_map-push, last_epoch_of-rises)

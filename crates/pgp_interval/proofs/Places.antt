-- The slots of the places that hold a device, met from below.
use Rattle.std.proofs.Common.{◌≡◌, ℕ, zero, suc, ◌+◌, ◌<◌, ◌≤◌, List, [], ◌∷◌, ◌++◌, Bool, filter, length, get_or, Option, None, is_some, refl, ap, sym, ◌∙◌, arith}
use Rattle.std.specs.List.{range_with_len}
use Rattle.std.proofs.lemmas.Bool.{cases_Bool, le-ltb, ne_eqb}
use Rattle.std.proofs.lemmas.List.{get_or_default}
use Rattle.pgp_ids.specs.SlotSet.{with_slot}
use Rattle.pgp_lists.proofs.Ranges.{filter_range-passes, filter_range-fails}

-- a slot above a set goes to its end
pub with_slot-filter_range : (test : ℕ → Bool) (a n slot : ℕ) → a + n ≤ slot → with_slot slot (filter test (range_with_len a n)) ≡ filter test (range_with_len a n) ++ slot ∷ []
with_slot-filter_range test a zero slot above = refl
with_slot-filter_range test a (suc n) slot above =
    grind (arith, cases_Bool (test a), le-ltb slot a, ne_eqb slot a, with_slot-filter_range test (a + 1) n slot)

-- a place within the list, read with either default
pub is_some-get_or : (places : List (Option ℕ)) (n : ℕ) (item : Option ℕ) → n < length places → item ≡ get_or places n item → is_some (get_or places n None) ≡ is_some item
is_some-get_or places n item within at = ap is_some (get_or_default places n None item within ∙ sym at)

pub ruleset place_laws = (filter_range-fails, filter_range-passes, with_slot-filter_range, is_some-get_or)

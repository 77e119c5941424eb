-- Sets that lack one device of those that all others have.
use Rattle.std.proofs.Common.{◌≡◌, ℕ, ◌+◌, ◌<◌, List, [], ◌∷◌, Bool, true, false, not, length, nat_eq, ap, sym, ◌∙◌, inl, inr, arith}
use Rattle.std.specs.List.{Contains, filter, list_any, range_with_len}
use Rattle.std.proofs.lemmas.Bool.{cases_Bool, true≢false}
use Rattle.std.proofs.lemmas.Bool.Decides.{nat_tests}
use Rattle.pgp_lists.proofs.Members.{Contains-here, any-contains, contains-filter, filter-contains, flat_map-contains, none-contains}
use Rattle.pgp_reasons.specs.Smallest.{all_sets, holds, is_smallest, most_sets, sets_of, smallest, AllHave, IsPartOf}
use Rattle.pgp_reasons.proofs.SetLemmas.{filtered-set, held-one, in-all, one-held, smallest-enough, IsMonotone}

-- the devices without one
abbrev pub without : ℕ → List ℕ → List ℕ
without osd osds = filter (λ other. not (nat_eq other osd)) osds

-- no set of them has it
pub lacks-it : (enough : List ℕ → Bool) (osd : ℕ) (osds set : List ℕ) → Contains (smallest enough (without osd osds)) set → Contains set osd → ⊥
lacks-it enough osd osds set in' there =
    let kept = filter-contains (λ other. not (nat_eq other osd)) osds osd ((smallest-enough enough (without osd osds) set in').1 osd there) in
    true≢false (sym kept.1 ∙ grind (arith, nat_tests))

-- one of the smallest of them is one of the smallest of all
pub with-it : (enough : List ℕ → Bool) (osd : ℕ) (osds set : List ℕ) → Contains (smallest enough (without osd osds)) set → Contains (smallest enough osds) set
with-it enough osd osds set in' =
    let small = filter-contains (is_smallest enough) (all_sets (without osd osds)) set in' in
    let size = flat_map-contains (λ n. sets_of n (without osd osds)) (range_with_len 0 (length (without osd osds) + 1)) set small.0 in
    contains-filter (is_smallest enough) (all_sets osds) set
    (in-all size.0 osds set (filtered-set (λ other. not (nat_eq other osd)) size.0 osds set size.1.1)) small.1

-- one of the sets lacks the device
pub not-all : (sets : List (List ℕ)) (osd : ℕ) → list_any (λ set. not (holds set osd)) sets ≡ true → AllHave sets osd → ⊥
not-all sets osd some all =
    let found = any-contains (λ set. not (holds set osd)) sets some in
    true≢false (sym found.1.1 ∙ ap not (one-held found.0 osd (all found.0 found.1.0)))

-- of a device that all of the sets have it was seen that the others aren't enough
pub all-seen : (enough : List ℕ → Bool) → IsMonotone enough → (osds : List ℕ) (sets : List (List ℕ)) → 0 < length sets → ((set : List ℕ) → Contains sets set → Contains (smallest enough osds) set)
    → ((osd : ℕ) → Contains osds osd → length sets < most_sets → AllHave sets osd → enough (without osd osds) ≡ false)
    → length sets < most_sets → (osd : ℕ) → AllHave sets osd → (set : List ℕ) → IsPartOf set osds → enough set ≡ true → Contains set osd
all-seen enough monotone osds [] one some seen below osd all set are is = absurd (omega (arith, one))
all-seen enough monotone osds (first ∷ sets) one some seen below osd all set are is = elim (cases_Bool (list_any (nat_eq osd) set)) [
  | inl here ↦ held-one set osd here
  | inr none ↦
      let of_them : Contains osds osd = (smallest-enough enough osds first (some first (Contains-here first sets))).1 osd (all first (Contains-here first sets)) in
      let part : IsPartOf set (without osd osds) = λ o in'.
      let other : nat_eq osd o ≡ false = none-contains (nat_eq osd) set o none in' in
      contains-filter (λ other. not (nat_eq other osd)) osds o (are o in') (grind (arith, nat_tests)) in
      absurd (true≢false (sym (monotone set (without osd osds) part is) ∙ seen osd of_them below all))
]

-- What one group more adds to the counts of devices.
use Rattle.std.proofs.Common.{◌≡◌, ℕ, ◌+◌, ◌<◌, List, [], ◌∷◌, ◌++◌, Bool, true, false, cond, nat_eq, nat_lt, slice_index, refl, ap, sym, ◌∙◌, inl, inr, arith}
use Rattle.std.specs.List.{All, count_by, list_any}
use Rattle.std.proofs.lemmas.Bool.{cases_Bool, false_from_ne_true}
use Rattle.std.proofs.lemmas.Bool.Decides.{nat_tests}
use Rattle.std.proofs.lemmas.List.Sums.{sum_by-append}
use Rattle.std.proofs.lemmas.List.Elements.{All-contains}
use Rattle.std.proofs.lemmas.List.Kept.{AllPairs-filter}
use Rattle.pgp_lists.specs.Ordered.{IsAscending}
use Rattle.pgp_lists.proofs.Members.{any-contains}
use Rattle.pgp_lists.proofs.Pairs.{AllPairs-first, AllPairs-nil, AllPairs-rest}
use Rattle.pgp_ids.specs.declared.verdict.Verdict.TheVariants.{Down}
use Rattle.pgp_group.specs.GroupLog.{GroupLog}
use Rattle.pgp_reasons.proofs.AwaitedLemmas.{blocked_by-ascends}
use Rattle.pgp_reasons.specs.GroupWays.{brings_back}
use Rattle.pgp_reasons.specs.Smallest.{holds}
use Rattle.pgp_whole.specs.Summary.{blockers, counted, freers, has_verdict}
use Rattle.pgp_whole.specs.kept.Sums.{AreCounts}

no-more : (osd : ℕ) (osds : List ℕ) → list_any (nat_eq osd) osds ≡ false → count_by (nat_eq osd) osds ≡ 0
no-more osd [] none = refl
no-more osd (o ∷ osds) none = elim (cases_Bool (nat_eq osd o)) [
  | inl here ↦ grind arith
  | inr apart ↦ grind (arith, no-more osd osds)
]

-- an ascending list holds a device once, if at all
pub count-once : (osd : ℕ) (osds : List ℕ) → IsAscending nat_lt osds → count_by (nat_eq osd) osds ≡ cond (list_any (nat_eq osd) osds) 1 0
count-once osd [] up = refl
count-once osd (o ∷ osds) up =
    let rest : count_by (nat_eq osd) osds ≡ cond (list_any (nat_eq osd) osds) 1 0 = count-once osd osds (AllPairs-rest (λ x y. nat_lt x y ≡ true) o osds up) in
    let after : All (λ y. nat_lt o y ≡ true) osds = AllPairs-first (λ x y. nat_lt x y ≡ true) o osds up in
    elim (cases_Bool (nat_eq osd o)) [
      | inl here ↦
          let none : list_any (nat_eq osd) osds ≡ false = false_from_ne_true (list_any (nat_eq osd) osds) (λ some.
          let found = any-contains (nat_eq osd) osds some in
          let above : nat_lt o found.0 ≡ true = All-contains (λ y. nat_lt o y ≡ true) osds found.0 after found.1.0 in
          let same : nat_eq osd found.0 ≡ true = found.1.1 in
          absurd (grind (arith, nat_tests))) in
          let split : count_by (nat_eq osd) (o ∷ osds) ≡ count_by (nat_eq osd) (o ∷ []) + count_by (nat_eq osd) osds = sum_by-append (λ y. cond (nat_eq osd y) 1 0) (o ∷ []) osds in
          grind (arith, here, split, no-more osd osds none)
      | inr apart ↦ grind (arith, apart, rest)
    ]

count-snoc : {X : Type 0} (test : X → Bool) (xs : List X) (x : X) → count_by test (xs ++ x ∷ []) ≡ count_by test xs + cond (test x) 1 0
count-snoc test xs x = sum_by-append (λ y. cond (test y) 1 0) xs (x ∷ []) ∙ ap (λ n. count_by test xs + n) (omega arith)

-- the counts, once these devices of the group are counted too
pub counts-more : (devices : GroupLog → List ℕ) (groups : List GroupLog) (g : GroupLog) (osds old new : List ℕ) → ((osd : ℕ) → holds osds osd ≡ holds (devices g) osd)
    → ((osd n : ℕ) → IsAscending nat_lt osds → osd < 4096 → slice_index old osd ≡ counted n → slice_index new osd ≡ counted (n + cond (holds osds osd) 1 0))
    → IsAscending nat_lt osds → AreCounts devices groups old → AreCounts devices (groups ++ g ∷ []) new
counts-more devices groups g osds old new same each up are = λ osd below.
    let n : ℕ = count_by (λ h. holds (devices h) osd) groups in
    each osd n up below (are osd below)
    ∙ ap (λ b. counted (n + cond b 1 0)) (same osd)
    ∙ ap counted (sym (count-snoc (λ h. holds (devices h) osd) groups g))

-- ---- the devices of a group

pub blockers-ascend : (g : GroupLog) → IsAscending nat_lt (blockers g)
blockers-ascend g = elim (cases_Bool (has_verdict Down g)) [
  | inl down ↦ rw down (blocked_by-ascends g)
  | inr other ↦ rw other (AllPairs-nil (λ x y. nat_lt x y ≡ true))
]

pub freers-ascend : (g : GroupLog) → IsAscending nat_lt (freers g)
freers-ascend g = AllPairs-filter (λ x y. nat_lt x y ≡ true) (λ osd. brings_back g (osd ∷ [])) (blockers g) (blockers-ascend g)

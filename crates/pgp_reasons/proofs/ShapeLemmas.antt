-- Any so many of some devices are enough, where all sets of so many are, and none of one fewer with all others.
use Rattle.std.proofs.Common.{◌≡◌, ◌⊎◌, ℕ, zero, suc, ◌-◌, ◌<◌, ◌≤◌, List, [], ◌∷◌, ◌++◌, Bool, true, false, not, cond, length, nat_eq, nat_le, append-nil, append_assoc, ap, sym, ◌∙◌, subst, inl, inr, arith}
use Rattle.std.specs.List.{Contains, count_by, filter}
use Rattle.std.proofs.lemmas.Bool.{cases_Bool, eq-eqb, true≢false}
use Rattle.std.proofs.lemmas.Bool.Decides.{nat_tests}
use Rattle.std.proofs.lemmas.List.Sums.{count_by-le-length, sum_by-cons}
use Rattle.pgp_lists.proofs.Members.{Contains-cases, Contains-first, Contains-here, Contains-nil, append-contains, contains-any, contains-append, contains-filter}
use Rattle.pgp_reasons.specs.kept.Shape.{IsEach, is_as_wanted}
use Rattle.pgp_reasons.specs.Smallest.{holds, sets_of, IsPartOf}
use Rattle.pgp_reasons.proofs.SetLemmas.{held-one, IsMonotone, fewer-short, set-cases, too_few, with-first, without-first}

-- any so many of the first devices are enough, no fewer of them are with all others, and they are more than that
pub record AreSplit (enough : List ℕ → Bool) (least : ℕ) (osds others : List ℕ) : Type 0 where
  pub some : 0 < least
  pub fewer : least < length osds
  pub enough_of : IsEach enough true [] least osds []
  pub too_few : IsEach enough false [] (least - 1) osds others

-- ---- how many of a list a set has

count-first : (set : List ℕ) (osd : ℕ) (osds : List ℕ) → holds set osd ≡ true → count_by (holds set) (osd ∷ osds) ≡ suc (count_by (holds set) osds)
count-first set osd osds here = omega (arith, sum_by-cons (λ o. cond (holds set o) 1 0) osd osds, ap {B = ℕ} (λ (b : Bool). cond b 1 0) here)

count-later : (set : List ℕ) (osd : ℕ) (osds : List ℕ) → holds set osd ≡ false → count_by (holds set) (osd ∷ osds) ≡ count_by (holds set) osds
count-later set osd osds none = omega (arith, sum_by-cons (λ o. cond (holds set o) 1 0) osd osds, ap {B = ℕ} (λ (b : Bool). cond b 1 0) none)

-- ---- with the first of the rest, and without it

module _ (enough : List ℕ → Bool) (wanted : Bool) (chosen : List ℕ) (n osd : ℕ) (rest others : List ℕ) where
  pub each-with : IsEach enough wanted chosen (suc n) (osd ∷ rest) others → IsEach enough wanted (chosen ++ osd ∷ []) n rest others
  each-with each set in' =
      ap (λ l. enough (l ++ others)) (append_assoc chosen (osd ∷ []) set) ∙ each (osd ∷ set) (with-first n osd rest set in')

  pub each-without : IsEach enough wanted chosen n (osd ∷ rest) others → IsEach enough wanted chosen n rest others
  each-without each set in' = each set (without-first n osd rest set in')

-- where both are judged so, all are
pub each-both : (enough : List ℕ → Bool) (wanted : Bool) (chosen pushed popped : List ℕ) (left osd : ℕ) (rest later others : List ℕ) → 0 < left → rest ≡ osd ∷ later → pushed ≡ chosen ++ osd ∷ [] → popped ≡ chosen
    → IsEach enough wanted pushed (left - 1) later others → IsEach enough wanted popped left later others → IsEach enough wanted chosen left rest others
each-both enough wanted chosen pushed popped zero osd rest later others some cut push pop first without set in' = absurd (omega (arith, some))
each-both enough wanted chosen pushed popped (suc n) osd rest later others some cut push pop first without set in' =
    elim (set-cases n osd later set (subst (λ (l : List ℕ). Contains (sets_of (suc n) l) set) cut in')) [
      | inl p ↦
          let less : suc n - 1 ≡ n = omega arith in
          ap (λ l. enough ((chosen ++ l) ++ others)) (sym p.1.1)
          ∙ ap (λ l. enough (l ++ others)) (sym (append_assoc chosen (osd ∷ []) p.0))
          ∙ ap (λ l. enough ((l ++ p.0) ++ others)) (sym push)
          ∙ first p.0 (subst (λ (m : ℕ). Contains (sets_of m later) p.0) (sym less) p.1.0)
      | inr other ↦ ap (λ l. enough ((l ++ set) ++ others)) (sym pop) ∙ without set other
    ]

-- ---- enough, and too few

module _ (enough : List ℕ → Bool) (monotone : IsMonotone enough) where
  enough-each : (chosen : List ℕ) (n : ℕ) (rest set : List ℕ) → IsEach enough true chosen n rest [] → IsPartOf chosen set → n ≤ count_by (holds set) rest → enough set ≡ true
  enough-each chosen zero rest set each part many =
      monotone ((chosen ++ []) ++ []) set (subst (λ (l : List ℕ). IsPartOf l set) (sym (append-nil (chosen ++ []) ∙ append-nil chosen)) part) (each [] (Contains-here [] []))
  enough-each chosen (suc n) [] set each part many = absurd (omega (arith, many))
  enough-each chosen (suc n) (osd ∷ rest) set each part many = elim (cases_Bool (holds set osd)) [
    | inl here ↦
        let with' : IsPartOf (chosen ++ osd ∷ []) set = λ o in'. elim (append-contains chosen (osd ∷ []) o in') [
          | inl left ↦ part o left
          | inr right ↦ elim (Contains-cases osd [] o right) [ inl same ↦ subst (Contains set) same (held-one set osd here) | inr none ↦ absurd (Contains-nil o none) ]
        ] in
        enough-each (chosen ++ osd ∷ []) n rest set (each-with enough true chosen n osd rest [] each) with' (omega (arith, many, count-first set osd rest here))
    | inr none ↦ enough-each chosen (suc n) rest set (each-without enough true chosen (suc n) osd rest [] each) part (omega (arith, many, count-later set osd rest none))
  ]

  -- each device of the set is one of these
  abbrev AreOf : (set chosen rest others : List ℕ) → Type 0
  AreOf set chosen rest others = (o : ℕ) → Contains set o → Contains chosen o ⊎ (Contains rest o ⊎ Contains others o)

  with-chosen : (set chosen rest others : List ℕ) (osd : ℕ) → AreOf set chosen (osd ∷ rest) others → AreOf set (chosen ++ osd ∷ []) rest others
  with-chosen set chosen rest others osd of_them o in' = elim (of_them o in') [
    | inl left ↦ inl (contains-append chosen (osd ∷ []) o (inl left))
    | inr right ↦ elim right [
      | inl some ↦ elim (Contains-cases osd rest o some) [
        | inl here ↦ inl (contains-append chosen (osd ∷ []) o (inr (Contains-first osd [] o here)))
        | inr later ↦ inr (inl later)
      ]
      | inr other ↦ inr (inr other)
    ]
  ]

  without-chosen : (set chosen rest others : List ℕ) (osd : ℕ) → holds set osd ≡ false → AreOf set chosen (osd ∷ rest) others → AreOf set chosen rest others
  without-chosen set chosen rest others osd none of_them o in' = elim (of_them o in') [
    | inl left ↦ inl left
    | inr right ↦ elim right [
      | inl some ↦ elim (Contains-cases osd rest o some) [
        | inl here ↦ absurd (true≢false (sym (contains-any (nat_eq osd) set o in' (eq-eqb osd o here)) ∙ none))
        | inr later ↦ inr (inl later)
      ]
      | inr other ↦ inr (inr other)
    ]
  ]

  short-each : (chosen : List ℕ) (n : ℕ) (rest others set : List ℕ) → IsEach enough false chosen n rest others → n ≤ length rest → count_by (holds set) rest ≤ n → AreOf set chosen rest others → enough set ≡ false
  short-each chosen zero [] others set each within few of_them =
      fewer-short enough monotone set ((chosen ++ []) ++ others) (λ o in'. elim (of_them o in') [
        | inl left ↦ contains-append (chosen ++ []) others o (inl (contains-append chosen [] o (inl left)))
        | inr right ↦ elim right [ inl none ↦ absurd (Contains-nil o none) | inr other ↦ contains-append (chosen ++ []) others o (inr other) ]
      ]) (each [] (Contains-here [] []))
  short-each chosen (suc n) [] others set each within few of_them = absurd (omega (arith, within))
  short-each chosen zero (osd ∷ rest) others set each within few of_them = elim (cases_Bool (holds set osd)) [
    | inl here ↦ absurd (omega (arith, few, count-first set osd rest here))
    | inr none ↦
        short-each chosen zero rest others set (each-without enough false chosen zero osd rest others each) (omega arith) (omega (arith, few, count-later set osd rest none))
        (without-chosen set chosen rest others osd none of_them)
  ]
  short-each chosen (suc n) (osd ∷ rest) others set each within few of_them = elim (cases_Bool (holds set osd)) [
    | inl here ↦
        short-each (chosen ++ osd ∷ []) n rest others set (each-with enough false chosen n osd rest others each) (omega (arith, within)) (omega (arith, few, count-first set osd rest here))
        (with-chosen set chosen rest others osd of_them)
    | inr none ↦ elim (cases_Bool (nat_le (suc n) (length rest))) [
      | inl more ↦
          short-each chosen (suc n) rest others set (each-without enough false chosen (suc n) osd rest others each) (grind (arith, nat_tests)) (omega (arith, few, count-later set osd rest none))
          (without-chosen set chosen rest others osd none of_them)
      | inr last ↦
          let all : length rest ≤ n = grind (arith, nat_tests) in
          short-each (chosen ++ osd ∷ []) n rest others set (each-with enough false chosen n osd rest others each) (omega (arith, within)) (omega (arith, all, count_by-le-length (holds set) rest))
          (with-chosen set chosen rest others osd of_them)
    ]
  ]

  pub any-exact : (least : ℕ) (osds some others set : List ℕ) → AreSplit enough least some others → ((o : ℕ) → Contains osds o → Contains some o ⊎ Contains others o) → IsPartOf set osds
      → enough set ≡ nat_le least (count_by (holds set) some)
  any-exact least osds some others set is parts are = elim (cases_Bool (nat_le least (count_by (holds set) some))) [
    | inl many ↦ enough-each [] least some set is.enough_of (λ o in'. absurd (Contains-nil o in')) (grind (arith, nat_tests)) ∙ sym many
    | inr few ↦
        let below : count_by (holds set) some < least = grind (arith, nat_tests) in
        short-each [] (least - 1) some others set is.too_few (omega (arith, is.fewer)) (omega (arith, below)) (λ o in'. inr (parts o (are o in'))) ∙ sym few
  ]

-- ---- sets that aren't there

pub each-none : (enough : List ℕ → Bool) (wanted : Bool) (chosen : List ℕ) (n : ℕ) (rest others : List ℕ) → length rest < n → IsEach enough wanted chosen n rest others
each-none enough wanted chosen n rest others few set in' = absurd (Contains-nil set (subst (λ (l : List (List ℕ)). Contains l set) (too_few n rest few) in'))

-- ---- the devices that pass a test, and those that don't

pub parted : (test : ℕ → Bool) (osds : List ℕ) (o : ℕ) → Contains osds o → Contains (filter (λ osd. is_as_wanted true (test osd)) osds) o ⊎ Contains (filter (λ osd. is_as_wanted false (test osd)) osds) o
parted test osds o in' = elim (cases_Bool (test o)) [
  | inl passes ↦ inl (contains-filter (λ osd. is_as_wanted true (test osd)) osds o in' passes)
  | inr fails ↦ inr (contains-filter (λ osd. is_as_wanted false (test osd)) osds o in' (ap not fails))
]

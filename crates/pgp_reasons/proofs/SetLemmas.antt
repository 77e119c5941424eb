-- Sets of devices, their parts, and the smallest of them that are enough.
use Rattle.std.proofs.Common.{◌≡◌, ◌⊎◌, ℕ, zero, suc, ◌+◌, ◌<◌, ◌≤◌, List, [], ◌∷◌, ◌++◌, Bool, true, false, not, length, map, take, drop, get_or, append-nil, append_assoc, add-one, zero-add, nat_eq, nat_lt, if◌then◌else◌, refl, ap, sym, ◌∙◌, subst, inl, inr, arith}
use Rattle.std.specs.List.{Contains, filter, list_any, range_with_len}
use Rattle.std.proofs.lemmas.Bool.{and_parts, cases_Bool, true≢false, false_from_ne_true, eqb-true, eq-eqb, not-true}
use Rattle.std.proofs.lemmas.List.{length-map, get_or-map, take_all}
use Rattle.std.proofs.lemmas.List.Elements.{Contains-get_or}
use Rattle.std.proofs.lemmas.List.Folds.{list_any_more}
use Rattle.std.proofs.lemmas.List.FromFn.{length-range_with_len, get_or-range_with_len}
use Rattle.std.proofs.lemmas.Bool.Decides.{nat_tests}
use Rattle.std.proofs.Math.ListN.{drop_of_length-le}
use Rattle.pgp_lists.proofs.Members.{Contains-nil, Contains-here, Contains-later, Contains-first, Contains-cases, append-contains, contains-append, map-contains, contains-map, any-contains, contains-any, none-contains, filter-contains, contains-filter, flat_map-contains, contains-flat_map}
use Rattle.pgp_reasons.specs.Smallest.{sets_of, each_but_one, is_smallest, all_sets, smallest, IsPartOf}

-- ---- whether a set has a device

pub held-one : (osds : List ℕ) (osd : ℕ) → list_any (nat_eq osd) osds ≡ true → Contains osds osd
held-one osds osd one =
    let found = any-contains (nat_eq osd) osds one in subst (Contains osds) (sym (eqb-true osd found.0 found.1.1)) found.1.0

pub one-held : (osds : List ℕ) (osd : ℕ) → Contains osds osd → list_any (nat_eq osd) osds ≡ true
one-held osds osd in' = contains-any (nat_eq osd) osds osd in' (eq-eqb osd osd refl)

-- ---- a set without one of its devices

pub length-each : (set : List ℕ) → length (each_but_one set) ≡ length set
length-each [] = refl
length-each (osd ∷ osds) = ap suc (length-map (each_but_one osds) (λ set. osd ∷ set) ∙ length-each osds)

-- what lacks the device at this place stands there
get-each : (set : List ℕ) (k : ℕ) → k < length set → get_or (each_but_one set) k [] ≡ take k set ++ drop (k + 1) set
get-each [] k below = absurd (omega arith)
get-each (osd ∷ osds) zero below = refl
get-each (osd ∷ osds) (suc k) below =
    get_or-map (λ set. osd ∷ set) (each_but_one osds) k [] [] (omega (arith, length-each osds))
    ∙ ap (λ set. osd ∷ set) (get-each osds k (omega arith)) ∙ rw (add-one k, add-one (suc k)) refl

-- one that is enough is found at its place
pub found-at : (enough : List ℕ → Bool) (set : List ℕ) (k : ℕ) → k < length set → enough (take k set ++ drop (k + 1) set) ≡ true → list_any enough (each_but_one set) ≡ true
found-at enough set k below is =
    let within : k < length (each_but_one set) = omega (arith, length-each set) in
    contains-any enough (each_but_one set) (get_or (each_but_one set) k []) (Contains-get_or (each_but_one set) k [] within) (ap enough (get-each set k below) ∙ is)

-- none up to this place is enough
pub none-more : (enough : List ℕ → Bool) (set : List ℕ) (k : ℕ) → k < length set → list_any enough (take k (each_but_one set)) ≡ false → enough (take k set ++ drop (k + 1) set) ≡ false
    → list_any enough (take (k + 1) (each_but_one set)) ≡ false
none-more enough set k below none is =
    list_any_more enough (each_but_one set) k [] (omega (arith, length-each set))
    ∙ rw (none, get-each set k below, is) refl

-- the same of all of them
pub none-all : (enough : List ℕ → Bool) (set : List ℕ) (k : ℕ) → length set ≤ k → list_any enough (take k (each_but_one set)) ≡ false → list_any enough (each_but_one set) ≡ false
none-all enough set k past none = ap (list_any enough) (sym (take_all k (each_but_one set) (omega (arith, length-each set)))) ∙ none

pub each-append : (chosen : List ℕ) (osd : ℕ) (osds : List ℕ) → Contains (each_but_one (chosen ++ osd ∷ osds)) (chosen ++ osds)
each-append [] osd osds = Contains-here osds (map (λ set. osd ∷ set) (each_but_one osds))
each-append (c ∷ chosen) osd osds =
    Contains-later (chosen ++ osd ∷ osds) (map (λ set. c ∷ set) (each_but_one (chosen ++ osd ∷ osds))) (c ∷ (chosen ++ osds))
    (contains-map (λ set. c ∷ set) (each_but_one (chosen ++ osd ∷ osds)) (chosen ++ osds) (each-append chosen osd osds))

-- ---- the sets of a number of devices

pub too_few : (n : ℕ) (osds : List ℕ) → length osds < n → sets_of n osds ≡ []
too_few zero osds few = absurd (omega arith)
too_few (suc n) [] few = refl
too_few (suc n) (osd ∷ osds) few = rw (too_few n osds (omega arith), too_few (suc n) osds (omega arith)) refl

-- such a set has the first device, or it hasn't
pub set-cases : (n osd : ℕ) (osds set : List ℕ) → Contains (sets_of (suc n) (osd ∷ osds)) set
    → ((part : List ℕ) × (Contains (sets_of n osds) part × (osd ∷ part ≡ set))) ⊎ Contains (sets_of (suc n) osds) set
set-cases n osd osds set in' = elim (append-contains (map (λ set. osd ∷ set) (sets_of n osds)) (sets_of (suc n) osds) set in') [
  | inl with' ↦ inl (map-contains (λ set. osd ∷ set) (sets_of n osds) set with')
  | inr without ↦ inr without
]

pub with-first : (n osd : ℕ) (osds part : List ℕ) → Contains (sets_of n osds) part → Contains (sets_of (suc n) (osd ∷ osds)) (osd ∷ part)
with-first n osd osds part in' = contains-append _ (sets_of (suc n) osds) _ (inl (contains-map (λ set. osd ∷ set) (sets_of n osds) part in'))

pub without-first : (n osd : ℕ) (osds set : List ℕ) → Contains (sets_of n osds) set → Contains (sets_of n (osd ∷ osds)) set
without-first zero osd osds set in' = in'
without-first (suc n) osd osds set in' = contains-append (map (λ set. osd ∷ set) (sets_of n osds)) (sets_of (suc n) osds) set (inr in')

-- a device of the first or of the others
later-part : (part osds : List ℕ) (osd : ℕ) → IsPartOf part osds → IsPartOf part (osd ∷ osds)
later-part part osds osd is = λ o in'. Contains-later osd osds o (is o in')

both-part : (part osds : List ℕ) (osd : ℕ) → IsPartOf part osds → IsPartOf (osd ∷ part) (osd ∷ osds)
both-part part osds osd is = λ o in'. elim (Contains-cases osd part o in') [
  | inl here ↦ Contains-first osd osds o here
  | inr later ↦ Contains-later osd osds o (is o later)
]

pub set-part : (n : ℕ) (osds set : List ℕ) → Contains (sets_of n osds) set → IsPartOf set osds
set-part zero osds set in' = λ o there. elim (Contains-cases [] [] set in') [
  | inl none ↦ absurd (Contains-nil o (subst (λ (s : List ℕ). Contains s o) (sym none) there))
  | inr none ↦ absurd (Contains-nil set none)
]
set-part (suc n) [] set in' = absurd (Contains-nil set in')
set-part (suc n) (osd ∷ osds) set in' = elim (set-cases n osd osds set in') [
  | inl p ↦ subst (λ (s : List ℕ). IsPartOf s (osd ∷ osds)) p.1.1 (both-part p.0 osds osd (set-part n osds p.0 p.1.0))
  | inr without ↦ later-part set osds osd (set-part (suc n) osds set without)
]

-- a set of one device or more has a first
pub first-of : (n : ℕ) (osds set : List ℕ) → Contains (sets_of (suc n) osds) set → (osd : ℕ) × ((rest : List ℕ) × (set ≡ osd ∷ rest))
first-of n [] set in' = absurd (Contains-nil set in')
first-of n (osd ∷ osds) set in' = elim (set-cases n osd osds set in') [
  | inl p ↦ (osd, (p.0, sym p.1.1))
  | inr without ↦ first-of n osds set without
]

-- ---- more devices

pub filter-none : {X : Type 0} (test : X → Bool) (xs : List X) → ((x : X) → Contains xs x → test x ≡ false) → filter test xs ≡ []
filter-none test [] none = refl
filter-none test (x ∷ xs) none = rw (none x (Contains-here x xs)) (filter-none test xs (λ y in'. none y (Contains-later x xs y in')))

pub append-part : (chosen part rest : List ℕ) → IsPartOf part rest → IsPartOf (chosen ++ part) (chosen ++ rest)
append-part chosen part rest is = λ o in'. elim (append-contains chosen part o in') [
  | inl left ↦ contains-append chosen rest o (inl left)
  | inr right ↦ contains-append chosen rest o (inr (is o right))
]

-- more devices are never less
abbrev pub IsMonotone : (List ℕ → Bool) → Type 0
IsMonotone enough = (part set : List ℕ) → IsPartOf part set → enough part ≡ true → enough set ≡ true

module _ (enough : List ℕ → Bool) (monotone : IsMonotone enough) where
  pub fewer-short : (part set : List ℕ) → IsPartOf part set → enough set ≡ false → enough part ≡ false
  fewer-short part set is short = false_from_ne_true (enough part) (λ more. true≢false (sym (monotone part set is more) ∙ short))

-- ---- where all of them aren't enough

pub all-part : (osds set : List ℕ) → Contains (all_sets osds) set → IsPartOf set osds
all-part osds set in' =
    let found = flat_map-contains (λ n. sets_of n osds) (range_with_len 0 (length osds + 1)) set in' in
    set-part found.0 osds set found.1.1

pub none-enough : (enough : List ℕ → Bool) → IsMonotone enough → (osds : List ℕ) → enough osds ≡ false → smallest enough osds ≡ []
none-enough enough monotone osds short = filter-none (is_smallest enough) (all_sets osds) (λ set in'.
    let few : enough set ≡ false = fewer-short enough monotone set osds (all-part osds set in') short in rw few refl)

-- ---- one device after another is left out

-- what is left of the rest, beside those that are kept
abbrev pub lean : (List ℕ → Bool) → List ℕ → List ℕ → List ℕ
lean enough kept [] = kept
lean enough kept (osd ∷ osds) = if enough (kept ++ osds) then lean enough kept osds else lean enough (kept ++ osd ∷ []) osds

-- a set of some number of devices is one of all
pub in-all : (n : ℕ) (osds set : List ℕ) → Contains (sets_of n osds) set → Contains (all_sets osds) set
in-all n osds set in' =
    let size : n < length osds + 1 = elim (cases_Bool (nat_lt (length osds) n)) [
      | inl few ↦ absurd (Contains-nil set (subst (λ (l : List (List ℕ)). Contains l set) (too_few n osds (grind (arith, nat_tests))) in'))
      | inr within ↦ grind (arith, nat_tests)
    ] in
    contains-flat_map (λ k. sets_of k osds) (range_with_len 0 (length osds + 1)) n set (n, omega (arith, length-range_with_len 0 (length osds + 1)), get_or-range_with_len 0 (length osds + 1) n n size ∙ zero-add n) in'

-- what is left is the kept ones and a set of the rest
pub lean-set : (enough : List ℕ → Bool) (kept rest : List ℕ) → (n : ℕ) × ((set : List ℕ) × (Contains (sets_of n rest) set × (lean enough kept rest ≡ kept ++ set)))
lean-set enough kept [] = (0, ([], (Contains-here [] [], sym (append-nil kept))))
lean-set enough kept (osd ∷ osds) = elim (cases_Bool (enough (kept ++ osds))) [
  | inl still ↦
      let more = lean-set enough kept osds in
      (more.0, (more.1.0, (without-first more.0 osd osds more.1.0 more.1.1.0, rw still more.1.1.1)))
  | inr short ↦
      let more = lean-set enough (kept ++ osd ∷ []) osds in
      (suc more.0, (osd ∷ more.1.0, (with-first more.0 osd osds more.1.0 more.1.1.0, rw short (more.1.1.1 ∙ append_assoc kept (osd ∷ []) more.1.0))))
]

pub lean-enough : (enough : List ℕ → Bool) (kept rest : List ℕ) → enough (kept ++ rest) ≡ true → enough (lean enough kept rest) ≡ true
lean-enough enough kept [] is = ap enough (sym (append-nil kept)) ∙ is
lean-enough enough kept (osd ∷ osds) is = elim (cases_Bool (enough (kept ++ osds))) [
  | inl still ↦ rw still (lean-enough enough kept osds still)
  | inr short ↦ rw short (lean-enough enough (kept ++ osd ∷ []) osds (ap enough (append_assoc kept (osd ∷ []) osds) ∙ is))
]

-- one without a device of the kept ones, or the kept ones without the last
each-push : (kept : List ℕ) (osd : ℕ) (part : List ℕ) → Contains (each_but_one (kept ++ osd ∷ [])) part → ((p : List ℕ) × (Contains (each_but_one kept) p × (part ≡ p ++ osd ∷ []))) ⊎ (part ≡ kept)
each-push [] osd part in' = elim (Contains-cases [] [] part in') [ inl here ↦ inr (sym here) | inr none ↦ absurd (Contains-nil part none) ]
each-push (k ∷ kept) osd part in' =
    elim (Contains-cases (kept ++ osd ∷ []) (map (λ set. k ∷ set) (each_but_one (kept ++ osd ∷ []))) part in') [
      | inl here ↦ inl (kept, (Contains-here kept (map (λ set. k ∷ set) (each_but_one kept)), sym here))
      | inr later ↦
          let found = map-contains (λ set. k ∷ set) (each_but_one (kept ++ osd ∷ [])) part later in
          elim (each-push kept osd found.0 found.1.0) [
            | inl p ↦ inl (k ∷ p.0, (Contains-later kept (map (λ set. k ∷ set) (each_but_one kept)) (k ∷ p.0) (contains-map (λ set. k ∷ set) (each_but_one kept) p.0 p.1.0), sym found.1.1 ∙ ap (λ l. k ∷ l) p.1.1))
            | inr same ↦ inr (sym found.1.1 ∙ ap (λ l. k ∷ l) same)
          ]
    ]

-- each of the kept ones is needed beside the rest
abbrev pub AreNeeded : (List ℕ → Bool) → List ℕ → List ℕ → Type 0
AreNeeded enough kept rest = (part : List ℕ) → Contains (each_but_one kept) part → enough (part ++ rest) ≡ false

module _ (enough : List ℕ → Bool) (monotone : IsMonotone enough) where
  lean-needed : (kept rest : List ℕ) → AreNeeded enough kept rest → (part : List ℕ) → Contains (each_but_one (lean enough kept rest)) part → enough part ≡ false
  lean-needed kept [] needed part = λ in'. ap enough (sym (append-nil part)) ∙ needed part in'
  lean-needed kept (osd ∷ osds) needed part = elim (cases_Bool (enough (kept ++ osds))) [
    | inl still ↦ rw still (lean-needed kept osds (λ p there. fewer-short enough monotone (p ++ osds) (p ++ osd ∷ osds) (append-part p osds (osd ∷ osds) (λ o o-in. Contains-later osd osds o o-in)) (needed p there)) part)
    | inr short ↦ rw short (lean-needed (kept ++ osd ∷ []) osds (λ p there. elim (each-push kept osd p there) [
      | inl q ↦ ap enough (ap (λ l. l ++ osds) q.1.1 ∙ append_assoc q.0 (osd ∷ []) osds) ∙ needed q.0 q.1.0
      | inr same ↦ ap (λ l. enough (l ++ osds)) same ∙ short
    ]) part)
  ]

  pub lean-smallest : (osds : List ℕ) → enough osds ≡ true → Contains (smallest enough osds) (lean enough [] osds)
  lean-smallest osds is =
      let found = lean-set enough [] osds in
      let set : List ℕ = lean enough [] osds in
      let within : Contains (sets_of found.0 osds) set = subst (λ (s : List ℕ). Contains (sets_of found.0 osds) s) (sym found.1.1.1) found.1.1.0 in
      let there : Contains (all_sets osds) set = in-all found.0 osds set within in
      let none : list_any enough (each_but_one set) ≡ false = false_from_ne_true _ (λ some.
      let one = any-contains enough (each_but_one set) some in
      true≢false (sym one.1.1 ∙ lean-needed [] osds (λ p no. absurd (Contains-nil p no)) one.0 one.1.0)) in
      contains-filter (is_smallest enough) (all_sets osds) set there (rw (lean-enough enough [] osds is, none) refl)

  -- after the last of them
  pub left_out : (osds kept left : List ℕ) (k : ℕ) → enough osds ≡ true → length osds ≤ k → lean enough kept (drop k osds) ≡ lean enough [] osds → left ≡ kept → Contains (smallest enough osds) left
  left_out osds kept left k is past same left-is =
      let none : drop k osds ≡ [] = drop_of_length-le osds past in
      let done : lean enough [] osds ≡ left = sym same ∙ ap (lean enough kept) none ∙ sym left-is in
      subst (Contains (smallest enough osds)) done (lean-smallest osds is)

-- ---- the smallest are all that there is to know

-- the sets of some of the devices are sets of them
pub filtered-set : (test : ℕ → Bool) (n : ℕ) (osds set : List ℕ) → Contains (sets_of n (filter test osds)) set → Contains (sets_of n osds) set
filtered-set test n [] set in' = in'
filtered-set test zero (osd ∷ osds) set in' = in'
filtered-set test (suc n) (osd ∷ osds) set in' = elim (cases_Bool (test osd)) [
  | inl passes ↦ elim (set-cases n osd (filter test osds) set (rw passes at in')) [
    | inl p ↦ subst (Contains (sets_of (suc n) (osd ∷ osds))) p.1.1 (with-first n osd osds p.0 (filtered-set test n osds p.0 p.1.0))
    | inr without ↦ without-first (suc n) osd osds set (filtered-set test (suc n) osds set without)
  ]
  | inr fails ↦ without-first (suc n) osd osds set (filtered-set test (suc n) osds set (rw fails at in'))
]

-- where an element stands the list is cut
split-at : (xs : List ℕ) (x : ℕ) → Contains xs x → (before : List ℕ) × ((after : List ℕ) × (xs ≡ before ++ x ∷ after))
split-at [] x in' = absurd (Contains-nil x in')
split-at (y ∷ xs) x in' = elim (Contains-cases y xs x in') [
  | inl here ↦ ([], (xs, ap (λ z. z ∷ xs) here))
  | inr later ↦ let rest = split-at xs x later in (y ∷ rest.0, (rest.1.0, ap (λ l. y ∷ l) rest.1.1))
]

-- one of the smallest is enough, and of these devices
pub smallest-enough : (enough : List ℕ → Bool) (osds set : List ℕ) → Contains (smallest enough osds) set → (enough set ≡ true) × IsPartOf set osds
smallest-enough enough osds set in' =
    let is = filter-contains (is_smallest enough) (all_sets osds) set in' in
    ((and_parts (enough set) (not (list_any enough (each_but_one set))) is.1).0, all-part osds set is.0)

module _ (enough : List ℕ → Bool) (monotone : IsMonotone enough) where
  -- no part of it that lacks one of its devices is
  pub smallest-no_part : (osds set part : List ℕ) (osd : ℕ) → Contains (smallest enough osds) set → IsPartOf part set → Contains set osd → (Contains part osd → ⊥) → enough part ≡ false
  smallest-no_part osds set part osd in' is there lacks =
      let small = filter-contains (is_smallest enough) (all_sets osds) set in' in
      let none : list_any enough (each_but_one set) ≡ false = not-true (list_any enough (each_but_one set)) (and_parts (enough set) (not (list_any enough (each_but_one set))) small.1).1 in
      let cut = split-at set osd there in
      let before : List ℕ = cut.0 in
      let after : List ℕ = cut.1.0 in
      let without : Contains (each_but_one set) (before ++ after) = subst (λ (s : List ℕ). Contains (each_but_one s) (before ++ after)) (sym cut.1.1) (each-append before osd after) in
      let within : IsPartOf part (before ++ after) = λ o o-in.
      elim (append-contains before (osd ∷ after) o (subst (λ (s : List ℕ). Contains s o) cut.1.1 (is o o-in))) [
        | inl left ↦ contains-append before after o (inl left)
        | inr right ↦ elim (Contains-cases osd after o right) [
          | inl same ↦ absurd (lacks (subst (Contains part) (sym same) o-in))
          | inr later ↦ contains-append before after o (inr later)
        ]
      ] in
      fewer-short enough monotone part (before ++ after) within (none-contains enough (each_but_one set) (before ++ after) none without)

  -- some of these devices that are enough have one of the smallest among them
  pub smallest-within : (osds some : List ℕ) → IsPartOf some osds → enough some ≡ true → (set : List ℕ) × (Contains (smallest enough osds) set × IsPartOf set some)
  smallest-within osds some is more =
      let test : ℕ → Bool = λ osd. list_any (nat_eq osd) some in
      let kept : List ℕ = filter test osds in
      let each : IsPartOf some kept = λ o o-in. contains-filter test osds o (is o o-in) (one-held some o o-in) in
      let back : IsPartOf kept some = λ o o-in. held-one some o (filter-contains test osds o o-in).1 in
      let set : List ℕ = lean enough [] kept in
      let small = filter-contains (is_smallest enough) (all_sets kept) set (lean-smallest enough monotone kept (monotone some kept each more)) in
      let size = flat_map-contains (λ n. sets_of n kept) (range_with_len 0 (length kept + 1)) set small.0 in
      let there : Contains (all_sets osds) set = in-all size.0 osds set (filtered-set test size.0 osds set size.1.1) in
      (set, (contains-filter (is_smallest enough) (all_sets osds) set there small.1, λ o o-in. back o (all-part kept set small.0 o o-in)))

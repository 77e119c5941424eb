-- Runs of numbers, and a walk over ascending numbers that gives those which aren't there.
use Rattle.std.proofs.Common.{◌≡◌, ℕ, zero, suc, ◌+◌, ◌-◌, ◌<◌, ◌≤◌, List, [], ◌∷◌, ◌++◌, Bool, true, false, not, ◌&&◌, nat_eq, nat_lt, nat_le, if◌then◌else◌, filter, map, refl, ap, ap₂, sym, ◌∙◌, subst, inl, inr, arith, append-nil}
use Rattle.std.specs.List.{Contains, list_any, range_with_len}
use Rattle.std.proofs.lemmas.Bool.{cases_Bool, eq-eqb, eqb-true, ltb-true}
use Rattle.std.proofs.lemmas.Bool.Decides.{nat_tests}
use Rattle.std.proofs.lemmas.List.Elements.{filter-append, All-contains}
use Rattle.std.proofs.lemmas.List.Folds.{list_any_none}
use Rattle.std.proofs.lemmas.List.FromFn.{length-range_with_len, get_or-range_with_len}
use Rattle.pgp_lists.specs.Ordered.{IsAscending, ascending}
use Rattle.pgp_lists.proofs.Bools.{same_tests}
use Rattle.pgp_lists.proofs.Ordered.{ascending-contains, contains-ascending, nat_order}
use Rattle.pgp_lists.proofs.Members.{All-members, Contains-nil, Contains-here, any-contains, contains-any, contains-map, filter-contains, filter-agree, map-contains}
use Rattle.pgp_lists.proofs.Pairs.{AllPairs-first, AllPairs-rest}
use Rattle.pgp_lists.proofs.Ranges.{range-append}
use Rattle.pgp_ids.specs.declared.log_entry.LogEntry.{LogEntry}
use Rattle.pgp_missing.specs.Log.{has_number, number_of}
use Rattle.pgp_group.proofs.Lists.{filter-each}
use Rattle.pgp_reasons.specs.Gaps.{from_to, then_runs, runs_of, numbers_above, runs_lacked}
use Rattle.pgp_reasons.specs.declared.gap.Gap.{Gap}

-- ---- numbers above one up to another

pub range-contains : (a k v : ℕ) → Contains (range_with_len a k) v → (a ≤ v) × (v < a + k)
range-contains a k v in' =
    let below : in'.0 < k = subst (λ n. in'.0 < n) (length-range_with_len a k) in'.1 in
    let is : a + in'.0 ≡ v = sym (get_or-range_with_len a k in'.0 v below) ∙ in'.2 in
    (omega arith, omega arith)

above-contains : (tail last v : ℕ) → Contains (numbers_above tail last) v → (tail < v) × (v ≤ last)
above-contains tail last v in' =
    let within = range-contains (tail + 1) (last - tail) v in' in
    (omega (arith, within.0), omega (arith, within.0, within.1))

above-split : (tail n last : ℕ) → tail < n → n ≤ last → numbers_above tail last ≡ numbers_above tail (n - 1) ++ n ∷ numbers_above n last
above-split tail n last low high =
    let sized : last - tail ≡ (n - 1 - tail) + suc (last - n) = omega arith in
    let from : (tail + 1) + (n - 1 - tail) ≡ n = omega arith in
    ap (range_with_len (tail + 1)) sized ∙ range-append (tail + 1) (n - 1 - tail) (suc (last - n))
    ∙ ap (λ b. range_with_len (tail + 1) (n - 1 - tail) ++ b ∷ range_with_len (b + 1) (last - n)) from

-- ---- runs

-- the first run begins with the number that was put before
pub then-first : (v : ℕ) (runs : List Gap) → (last : ℕ) × ((rest : List Gap) × (then_runs v runs ≡ from_to v last ∷ rest))
then-first v [] = (v, ([], refl))
then-first v (run ∷ runs) = elim (cases_Bool (nat_eq (v + 1) run.first)) [
  | inl next ↦ (run.last, (runs, rw next refl))
  | inr apart ↦ (v, (run ∷ runs, rw apart refl))
]

-- a number that none of these follows is a run of its own
then-apart : (v : ℕ) (vs : List ℕ) → ((w : ℕ) → Contains vs w → v + 1 < w) → then_runs v (runs_of vs) ≡ from_to v v ∷ runs_of vs
then-apart v [] above = refl
then-apart v (w ∷ vs) above =
    let first = then-first w (runs_of vs) in
    let far : v + 1 < w = above w (Contains-here w vs) in
    let other : nat_eq (v + 1) w ≡ false = grind (arith, nat_tests) in
    rw first.1.1 (rw other refl)

runs-front : (a k : ℕ) (vs : List ℕ) → ((v : ℕ) → Contains vs v → a + suc k < v) → runs_of (range_with_len a (suc k) ++ vs) ≡ from_to a (a + k) ∷ runs_of vs
runs-front a zero vs above =
    then-apart a vs (λ v in'. let far = above v in' in omega arith) ∙ ap (λ last. from_to a last ∷ runs_of vs) (omega arith)
runs-front a (suc k) vs above =
    let rest : runs_of (range_with_len (a + 1) (suc k) ++ vs) ≡ from_to (a + 1) ((a + 1) + k) ∷ runs_of vs =
    runs-front (a + 1) k vs (λ v in'. let far = above v in' in omega arith) in
    let next : nat_eq (a + 1) (a + 1) ≡ true = grind (arith, nat_tests) in
    ap (then_runs a) rest ∙ rw next (ap (λ last. from_to a last ∷ runs_of vs) (omega arith))

runs-alone : (a k : ℕ) → runs_of (range_with_len a (suc k)) ≡ from_to a (a + k) ∷ []
runs-alone a k =
    ap runs_of (sym (append-nil (range_with_len a (suc k)))) ∙ runs-front a k [] (λ v in'. absurd (Contains-nil v in'))

pub run-of-above : (tail last : ℕ) → tail < last → runs_of (numbers_above tail last) ≡ from_to (tail + 1) last ∷ []
run-of-above tail last low =
    let k : ℕ = last - tail - 1 in
    let sized : last - tail ≡ suc k = omega arith in
    let ends : (tail + 1) + k ≡ last = omega arith in
    ap (λ n. runs_of (range_with_len (tail + 1) n)) sized ∙ runs-alone (tail + 1) k ∙ ap (λ l. from_to (tail + 1) l ∷ []) ends

runs-join : (a k : ℕ) (vs : List ℕ) → ((v : ℕ) → Contains vs v → a + k < v) → runs_of (range_with_len a k ++ vs) ≡ runs_of (range_with_len a k) ++ runs_of vs
runs-join a zero vs above = refl
runs-join a (suc k) vs above = runs-front a k vs above ∙ ap (λ runs. runs ++ runs_of vs) (sym (runs-alone a k))

-- ---- a walk over ascending numbers

-- what is left to find above `reached`, where these numbers are left to look at
abbrev pub left_above : ℕ → List ℕ → ℕ → List Gap
left_above reached [] last = runs_of (numbers_above reached last)
left_above reached (n ∷ ns) last =
    if nat_lt reached n && nat_le n last then runs_of (numbers_above reached (n - 1)) ++ left_above n ns last
    else left_above reached ns last

absent : (v : ℕ) (ns : List ℕ) → ((n : ℕ) → Contains ns n → v < n) → list_any (nat_eq v) ns ≡ false
absent v ns above = list_any_none (nat_eq v) ns (All-members (λ n. nat_eq v n ≡ false) ns (λ n in'.
    let far : v < n = above n in' in grind (arith, nat_tests)))

above-first : (n : ℕ) (ns : List ℕ) → IsAscending nat_lt (n ∷ ns) → (m : ℕ) → Contains ns m → n < m
above-first n ns up m in' =
    ltb-true n m (All-contains (λ y. nat_lt n y ≡ true) ns m (AllPairs-first (λ x y. nat_lt x y ≡ true) n ns up) in')

abbrev lacks : List ℕ → ℕ → Bool
lacks ns v = not (list_any (nat_eq v) ns)

-- the next number is one of the log
passes-one : (reached n last : ℕ) (ns : List ℕ) → IsAscending nat_lt (n ∷ ns) → reached < n → n ≤ last
    → runs_of (numbers_above reached (n - 1)) ++ runs_of (filter (lacks ns) (numbers_above n last)) ≡ runs_of (filter (lacks (n ∷ ns)) (numbers_above reached last))
passes-one reached n last ns up low high =
    let front : List ℕ = numbers_above reached (n - 1) in
    let back : List ℕ = numbers_above n last in
    let whole : filter (lacks (n ∷ ns)) (numbers_above reached last) ≡ filter (lacks (n ∷ ns)) front ++ filter (lacks (n ∷ ns)) (n ∷ back) =
    ap (filter (lacks (n ∷ ns))) (above-split reached n last low high) ∙ filter-append (lacks (n ∷ ns)) front (n ∷ back) in
    let before : filter (lacks (n ∷ ns)) front ≡ front =
    filter-each (lacks (n ∷ ns)) front (λ v in'.
    let within = above-contains reached (n - 1) v in' in
    let below : v < n = omega (arith, within.1) in
    let other : nat_eq v n ≡ false = grind (arith, nat_tests) in
    let none : list_any (nat_eq v) ns ≡ false = absent v ns (λ m there. let far = above-first n ns up m there in omega arith) in
    rw (other, none) refl) in
    let same : nat_eq n n ≡ true = grind (arith, nat_tests) in
    let after : filter (lacks (n ∷ ns)) back ≡ filter (lacks ns) back =
    filter-agree (lacks (n ∷ ns)) (lacks ns) back (λ v in'.
    let within = above-contains n last v in' in
    let over : n < v = within.0 in
    let other : nat_eq v n ≡ false = grind (arith, nat_tests) in
    rw other refl) in
    let here : filter (lacks (n ∷ ns)) (n ∷ back) ≡ filter (lacks ns) back = rw same after in
    let far : (v : ℕ) → Contains (filter (lacks ns) back) v → (reached + 1) + (n - 1 - reached) < v = λ v in'.
    let within = above-contains n last v (filter-contains (lacks ns) back v in').0 in omega (arith, within.0) in
    sym (ap runs_of (whole ∙ ap₂ (λ xs ys. xs ++ ys) before here) ∙ runs-join (reached + 1) (n - 1 - reached) (filter (lacks ns) back) far)

-- the next number isn't one of the log
passes-over : (reached n last : ℕ) (ns : List ℕ) → (nat_lt reached n && nat_le n last) ≡ false
    → runs_of (filter (lacks ns) (numbers_above reached last)) ≡ runs_of (filter (lacks (n ∷ ns)) (numbers_above reached last))
passes-over reached n last ns outside =
    ap runs_of (filter-agree (lacks ns) (lacks (n ∷ ns)) (numbers_above reached last) (λ v in'.
    let within = above-contains reached last v in' in
    let low : reached < v = within.0 in
    let high : v ≤ last = within.1 in
    let other : nat_eq v n ≡ false = grind (arith, nat_tests, cases_Bool (nat_eq v n)) in
    rw other refl))

pub left-is : (reached last : ℕ) (ns : List ℕ) → IsAscending nat_lt ns → left_above reached ns last ≡ runs_lacked (λ v. list_any (nat_eq v) ns) reached last
left-is reached last [] up = ap runs_of (sym (filter-each (lacks []) (numbers_above reached last) (λ v in'. refl)))
left-is reached last (n ∷ ns) up =
    let rest : IsAscending nat_lt ns = AllPairs-rest (λ x y. nat_lt x y ≡ true) n ns up in
    elim (cases_Bool (nat_lt reached n && nat_le n last)) [
      | inl inside ↦
          let low : reached < n = grind (arith, nat_tests) in
          let high : n ≤ last = grind (arith, nat_tests) in
          rw inside (ap (λ runs. runs_of (numbers_above reached (n - 1)) ++ runs) (left-is n last ns rest) ∙ passes-one reached n last ns up low high)
      | inr outside ↦ rw outside (left-is reached last ns rest ∙ passes-over reached n last ns outside)
    ]

-- ---- the numbers of entries

pub any-number : (entries : List LogEntry) (v : ℕ) → list_any (nat_eq v) (ascending nat_lt (map number_of entries)) ≡ has_number v entries
any-number entries v =
    same_tests _ _
    (λ some.
    let found = any-contains (nat_eq v) (ascending nat_lt (map number_of entries)) some in
    let told = map-contains number_of entries found.0 (ascending-contains nat_lt (map number_of entries) found.0 found.1.0) in
    contains-any (λ (entry : LogEntry). nat_eq entry.version.v v) entries told.0 told.1.0
    (eq-eqb told.0.version.v v (told.1.1 ∙ sym (eqb-true v found.0 found.1.1))))
    (λ some.
    let found = any-contains (λ (entry : LogEntry). nat_eq entry.version.v v) entries some in
    let number : ℕ = number_of found.0 in
    contains-any (nat_eq v) (ascending nat_lt (map number_of entries)) number
    (contains-ascending nat_lt nat_order (map number_of entries) number (contains-map number_of entries found.0 found.1.0))
    (eq-eqb v number (sym (eqb-true number v found.1.1))))

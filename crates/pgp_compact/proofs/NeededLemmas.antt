-- What holds of the elements of a list that are needed.
use Rattle.pgp_compact.proofs.Common.{Bool, Contains, Contains-here, Contains-later, List, None, Option, Some, [], ap, append-nil, append_assoc, are_needed, arith, cases_Bool, chosen, drop, drop_all, drop_more, false, filter, filter_map, get_or, if◌then◌else◌, is_some, last_or, last_or-any, last_where-some, length, list_any, list_any-append, needed_of, refl, sym, true, ℕ, ◌++◌, ◌+◌, ◌<◌, ◌∙◌, ◌∷◌, ◌≡◌, ◌≤◌}

pub needed-length : {X : Type 0} (test : List X → X → Bool) (xs : List X) → length (needed_of test xs) ≤ length xs
needed-length test [] = omega arith
needed-length test (x ∷ xs) = grind (arith, cases_Bool (test xs x), needed-length test xs)

-- of elements of which all this holds, the last that passes is needed
abbrev pub NeedsLast : {X : Type 0} → (X → Type 0) → (List X → X → Bool) → (X → Bool) → Type 0
NeedsLast {X} Holds test passes =
    (later : List X) (x : X) → Holds x → ((y : X) → Contains later y → Holds y) → passes x ≡ true → list_any passes later ≡ false → test later x ≡ true

-- the last one that passes is the same, whatever follows
pub needed-last : {X : Type 0} (Holds : X → Type 0) (test : List X → X → Bool) (passes : X → Bool) → NeedsLast Holds test passes
    → (before : Option X) (xs more : List X) → ((y : X) → Contains xs y → Holds y)
    → last_or before (filter passes (needed_of test xs ++ more)) ≡ last_or before (filter passes (xs ++ more))
needed-last Holds test passes needs before [] more each = refl
needed-last {X = X} Holds test passes needs before (x ∷ xs) more each =
    let later = λ (y : X) (there : Contains xs y). each y (Contains-later x xs y there) in
    let rest = λ (o : Option X). needed-last Holds test passes needs o xs more later in
    grind (arith, rest before, rest (Some x), needs xs x (each x (Contains-here x xs)) later, last_or-any, list_any-append)

pub needed-any : {X : Type 0} (Holds : X → Type 0) (test : List X → X → Bool) (passes : X → Bool) → NeedsLast Holds test passes
    → (xs more : List X) → ((y : X) → Contains xs y → Holds y) → list_any passes (needed_of test xs ++ more) ≡ list_any passes (xs ++ more)
needed-any Holds test passes needs xs more each =
    sym (last_where-some passes (needed_of test xs ++ more)) ∙ ap is_some (needed-last Holds test passes needs None xs more each) ∙ last_where-some passes (xs ++ more)

pub needed-none : {X : Type 0} (test : List X → X → Bool) (passes : X → Bool) (xs : List X) → list_any passes xs ≡ false → list_any passes (needed_of test xs) ≡ false
needed-none test passes [] none = refl
needed-none test passes (x ∷ xs) none = grind (arith, cases_Bool (passes x), cases_Bool (test xs x), needed-none test passes xs)

-- ---- parts of a list

-- what is needed of a part of the list, where what comes later of that part alone decides
module _ {X Y : Type 0} (part : X → Option Y) (test : Y → Bool) (needs : List X → X → Bool) (wants : List Y → Y → Bool) where
  abbrev part_of : List X → List Y
  part_of xs = filter test (filter_map part xs)

  abbrev Decides : Type 0
  Decides = (later : List X) (x : X) (y : Y) → part x ≡ Some y → test y ≡ true → needs later x ≡ wants (part_of later) y

  pub needed-part : Decides → (xs more : List X) → part_of (needed_of needs xs ++ more) ≡ needed_of wants (part_of xs) ++ part_of more
  needed-part decides [] more = refl
  needed-part decides (x ∷ xs) more =
      grind (arith, cases_Bool (needs xs x), λ (y : Y). cases_Bool (test y), decides xs x, needed-part decides xs more)

-- a part of which all is needed
pub needed-whole : {X Y : Type 0} (part : X → Option Y) (needs : List X → X → Bool) → ((later : List X) (x : X) → is_some (part x) ≡ true → needs later x ≡ true) → (xs more : List X)
    → filter_map part (needed_of needs xs ++ more) ≡ filter_map part (xs ++ more)
needed-whole part needs each [] more = refl
needed-whole part needs each (x ∷ xs) more = grind (arith, cases_Bool (needs xs x), each xs x, needed-whole part needs each xs more)

pub needed-twice : {X : Type 0} (needs again : List X → X → Bool) → ((later : List X) (x : X) → needs later x ≡ true → again (needed_of needs later) x ≡ true) → (xs : List X)
    → needed_of again (needed_of needs xs) ≡ needed_of needs xs
needed-twice needs again still [] = refl
needed-twice needs again still (x ∷ xs) = grind (arith, cases_Bool (needs xs x), still xs x, needed-twice needs again still xs)

-- where all is needed, nothing is left out
pub needed-each : {X : Type 0} (needs : List X → X → Bool) → ((later : List X) (x : X) → needs later x ≡ true) → (xs : List X) → needed_of needs xs ≡ xs
needed-each needs each [] = refl
needed-each needs each (x ∷ xs) = grind (arith, each xs x, needed-each needs each xs)

pub chosen-needed : {X : Type 0} (test : List X → X → Bool) (xs : List X) → chosen (are_needed test xs) xs ≡ needed_of test xs
chosen-needed test [] = refl
chosen-needed test (x ∷ xs) = grind (arith, cases_Bool (test xs x), chosen-needed test xs)

pub are_needed-length : {X : Type 0} (test : List X → X → Bool) (xs : List X) → length (are_needed test xs) ≡ length xs
are_needed-length test [] = refl
are_needed-length test (x ∷ xs) = let rest : length (are_needed test xs) ≡ length xs = are_needed-length test xs in omega arith

-- this one, if it is
abbrev pub one_if : {X : Type 0} → Bool → X → List X
one_if choice x = if choice then x ∷ [] else []

-- after one choice more
pub chosen-next : {X : Type 0} (done all : List X) (choices : List Bool) (xs : List X) (i : ℕ) (choice : Bool) (x : X) → i < length choices → i < length xs
    → choice ≡ get_or choices i choice → x ≡ get_or xs i x → done ++ chosen (drop i choices) (drop i xs) ≡ all
    → (done ++ one_if choice x) ++ chosen (drop (i + 1) choices) (drop (i + 1) xs) ≡ all
chosen-next done all choices xs i choice x some more is at before =
    grind (arith, cases_Bool choice, drop_more choices i choice some, drop_more xs i x more, append_assoc)

-- after the last choice
pub chosen-all : {X : Type 0} (done all : List X) (choices : List Bool) (xs : List X) (i : ℕ) → length xs ≤ i → done ++ chosen choices (drop i xs) ≡ all → done ≡ all
chosen-all done all [] xs i end is = grind (arith, append-nil done, drop_all i xs end)
chosen-all done all (choice ∷ choices) xs i end is = grind (arith, append-nil done, drop_all i xs end)

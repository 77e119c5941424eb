-- A walk over the items of a list that stops at the first that lacks its shape.
use Rattle.std.proofs.Common.{◌≡◌, ◌≤◌, ◌<◌, ℕ, ◌+◌, Bool, true, false, nat_le, List, [], ◌∷◌, ◌++◌, length, Option, Some, None, option_map, refl, sym, ap, arith, append_assoc, append-nil, length-append}
use Rattle.std.proofs.lemmas.Bool.{le-leb}
use Rattle.std.proofs.lemmas.Bool.Decides.{nat_tests}
use Rattle.std.specs.Prelude.{if◌then◌else◌}
use Rattle.serde_json.specs.Data.{Data}
use Rattle.pgp_lines.specs.Shapes.{is_between, each_in, items_in, list_in}

-- what the values are: those that were found, and each of the items that are left
abbrev pub each_after : {A : Type 0} → (Data → Option A) → List A → List Data → Option (List A)
each_after shape found left = option_map (λ rest. found ++ rest) (each_in shape left)

-- the same of a list of low to high items
abbrev pub list_after : {A : Type 0} → ℕ → ℕ → (Data → Option A) → List A → List Data → Option (List A)
list_after low high shape found left = if is_between low high (length found + length left) then each_after shape found left else None

module _ {A : Type 0} (shape : Data → Option A) where
  found-next : (found : List A) (x : A) (rest : Option (List A)) → option_map (λ xs. found ++ xs) (option_map (λ xs. x ∷ xs) rest) ≡ option_map (λ xs. (found ++ x ∷ []) ++ xs) rest
  found-next found x None = refl
  found-next found x (Some xs) = ap Some (sym (append_assoc found (x ∷ []) xs))

  -- one item more is found
  pub each_after-next : (found : List A) (x : A) (d : Data) (ds left : List Data) → left ≡ d ∷ ds → Some x ≡ shape d → each_after shape found left ≡ each_after shape (found ++ x ∷ []) ds
  each_after-next found x d ds left is has = rw (is, ← has) (found-next found x (each_in shape ds))

  pub list_after-next : (low high : ℕ) (found : List A) (x : A) (d : Data) (ds left : List Data) → left ≡ d ∷ ds → shape d ≡ Some x
      → list_after low high shape found left ≡ list_after low high shape (found ++ x ∷ []) ds
  list_after-next low high found x d ds left is has =
      let longer : length found + length (d ∷ ds) ≡ length (found ++ x ∷ []) + length ds = omega (arith, length-append found (x ∷ [])) in
      rw (is, has, longer, found-next found x (each_in shape ds)) refl

  -- no item is left, and they are enough
  pub list_after-end : (low high : ℕ) (found : List A) (left : List Data) → left ≡ [] → low ≤ length found → length found ≤ high
      → list_after low high shape found left ≡ Some found
  list_after-end low high found left is above within =
      let all : length found + 0 ≡ length found = omega arith in
      rw (is, all, le-leb low (length found) above, le-leb (length found) high within) (ap Some (append-nil found))

  -- no item is left, and they are too few
  pub list_after-few : (low high : ℕ) (found : List A) (left : List Data) → left ≡ [] → length found < low → list_after low high shape found left ≡ None
  list_after-few low high found left is below =
      let all : nat_le low (length found + 0) ≡ false = grind (arith, nat_tests) in
      rw (is, all)

  -- one item too many is left
  pub list_after-many : (low high : ℕ) (found : List A) (d : Data) (ds left : List Data) → left ≡ d ∷ ds → high ≤ length found → list_after low high shape found left ≡ None
  list_after-many low high found d ds left is above =
      let all : is_between low high (length found + length (d ∷ ds)) ≡ false = grind (arith, nat_tests) in
      rw (is, all)

  either : (b : Bool) (rest : Option (List A)) → (if b then rest else rest) ≡ rest
  either true rest = refl
  either false rest = refl

  -- an item has another shape
  pub list_after-bad : (low high : ℕ) (found : List A) (d : Data) (ds left : List Data) → left ≡ d ∷ ds → shape d ≡ None → list_after low high shape found left ≡ None
  list_after-bad low high found d ds left is bad = rw (is, bad) (either _ None)

  pub started : (rest : Option (List A)) → rest ≡ option_map (λ xs. [] ++ xs) rest
  started None = refl
  started (Some xs) = refl

  -- all items are left
  pub list_after-start : (low high : ℕ) (d : Data) (left : List Data) → Some left ≡ items_in d → list_in low high shape d ≡ list_after low high shape [] left
  list_after-start low high d left is =
      let all : 0 + length left ≡ length left = omega arith in
      rw (← is, all) (ap (λ rest. if is_between low high (length left) then rest else None) (started (each_in shape left)))

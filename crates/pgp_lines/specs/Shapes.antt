-- The shapes that the values of a line have: numbers of a range, lists, and objects whose keys are known.
use Rattle.std.specs.Prelude.{ℕ, ℤ, int_le, ◌&&◌, List, [], ◌∷◌, length, Bool, not, nat_le, if◌then◌else◌, Option, Some, None, Result, Ok, is_none, option_map, option_and_then, filter, fold}
use Rattle.std.specs.Cmp.Lexicographic.{slice_cmp}
use Rattle.std.specs.List.{list_any}
use Rattle.std.specs.Option.{ok_or}
use Rattle.std.specs.Ordering.{nat_cmp, match_ordering}
use Rattle.std.specs.Str.{bytes_eq}
use Rattle.serde_json.specs.Data.{Data, Items, no_items, item, Members, no_members, member}
use Rattle.serde_json.specs.Find.{get, as_number, as_u64, as_i64, as_array, as_object}
use Rattle.pgp_lines.specs.LineFault.{LineFault, bad_field}

-- low to high
abbrev pub is_between : ℕ → ℕ → ℕ → Bool
is_between low high n = nat_le low n && nat_le n high

-- a whole number from low to high
abbrev pub number_in : ℕ → ℕ → Data → Option ℕ
number_in low high d = option_and_then (λ n. if is_between low high n then Some n else None) (option_and_then as_u64 (as_number d))

-- a whole number from low to high, which may be negative
abbrev pub integer_in : ℤ → ℤ → Data → Option ℤ
integer_in low high d =
    option_and_then (λ n. if int_le low n && int_le n high then Some n else None) (option_and_then as_i64 (as_number d))

-- the items in order
abbrev pub items_list : Items → List Data
items_list no_items = []
items_list (item d ds) = d ∷ items_list ds

-- the items of a list
abbrev pub items_in : Data → Option (List Data)
items_in d = option_map items_list (as_array d)

abbrev pub two_of : List Data → Option (Data × Data)
two_of (a ∷ b ∷ []) = Some (a, b)
two_of _ = None

-- the items of a list of two
abbrev pub pair_in : Data → Option (Data × Data)
pair_in d = option_and_then two_of (items_in d)

abbrev pub three_of : List Data → Option (Data × Data × Data)
three_of [] = None
three_of (a ∷ ds) = option_map (λ p. (a, p.0, p.1)) (two_of ds)

-- the items of a list of three
abbrev pub triple_in : Data → Option (Data × Data × Data)
triple_in d = option_and_then three_of (items_in d)

abbrev pub four_of : List Data → Option (Data × Data × Data × Data)
four_of [] = None
four_of (a ∷ ds) = option_map (λ t. (a, t.0, t.1, t.2)) (three_of ds)

-- the items of a list of four
abbrev pub quadruple_in : Data → Option (Data × Data × Data × Data)
quadruple_in d = option_and_then four_of (items_in d)

-- what the values are, where each has this shape
abbrev pub each_in : {A : Type 0} → (Data → Option A) → List Data → Option (List A)
each_in shape [] = Some []
each_in shape (d ∷ ds) = option_and_then (λ x. option_map (λ xs. x ∷ xs) (each_in shape ds)) (shape d)

-- a list of low to high items of this shape
abbrev pub list_in : {A : Type 0} → ℕ → ℕ → (Data → Option A) → Data → Option (List A)
list_in low high shape d = option_and_then (λ ds. if is_between low high (length ds) then each_in shape ds else None) (items_in d)

-- a list of any length of items of this shape
abbrev pub list_of : {A : Type 0} → (Data → Option A) → Data → Option (List A)
list_of shape d = option_and_then (each_in shape) (items_in d)

-- the lesser of two texts in byte order
abbrev pub lesser : List ℕ → List ℕ → List ℕ
lesser a b = match_ordering (slice_cmp nat_cmp a b) a a b

-- the lesser of a text and the least so far, if there is one
abbrev pub least_with : List ℕ → Option (List ℕ) → List ℕ
least_with text None = text
least_with text (Some best) = lesser text best

-- the least of the texts in byte order
abbrev pub least : List (List ℕ) → Option (List ℕ)
least [] = None
least (text ∷ texts) = Some (fold lesser text texts)

-- the keys of an object
abbrev pub keys_of : Members → List (List ℕ)
keys_of no_members = []
keys_of (member key d ms) = key ∷ keys_of ms

-- the key is one of these
abbrev pub is_key : List (List ℕ) → List ℕ → Bool
is_key keys key = list_any (λ k. bytes_eq k key) keys

-- the least key, in byte order, of an object that is none of these
abbrev pub unknown_key_in : List (List ℕ) → Data → Option (List ℕ)
unknown_key_in keys d = option_and_then (λ ms. least (filter (λ key. not (is_key keys key)) (keys_of ms))) (as_object d)

-- an object has no keys but these
abbrev pub has_only : List (List ℕ) → Data → Bool
has_only keys d = is_none (unknown_key_in keys d)

-- the value at a key, of this shape
abbrev pub field : {A : Type 0} → List ℕ → (Data → Option A) → Data → Option A
field key shape d = option_and_then shape (get key d)

-- the value that a line must have at a key
abbrev pub required : {A : Type 0} → List ℕ → (Data → Option A) → Data → Result A LineFault
required key shape d = ok_or (field key shape d) (bad_field key)

-- a value of this shape, where there is one, and else what stands for its absence
abbrev pub or_absent : {A : Type 0} → List ℕ → (Data → Option A) → A → Option Data → Result A LineFault
or_absent key shape absent None = Ok absent
or_absent key shape absent (Some d) = ok_or (shape d) (bad_field key)

-- the value that a line may have at a key
abbrev pub optional : {A : Type 0} → List ℕ → (Data → Option A) → A → Data → Result A LineFault
optional key shape absent d = or_absent key shape absent (get key d)

infixl 10 ◌>>=◌
-- what follows, with the value before it, where there is one
abbrev pub ◌>>=◌ : {A B : Type 0} → Option A → (A → Option B) → Option B
o >>= rest = option_and_then rest o

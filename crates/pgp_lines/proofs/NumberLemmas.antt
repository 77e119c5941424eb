-- The text of a whole number.
use Rattle.std.proofs.Common.{◌≡◌, ℕ, ◌^◌, ◌<◌, List, [], ◌∷◌, ◌++◌, length, get_or, ◌==◌, false, Some, sym, refl, ap, ◌∙◌, arith, append-nil, lt-ltb, ne_eqb}
use Rattle.std.specs.Char.{digit_value}
use Rattle.std.specs.Str.Parse.{AllDigits, IsNumeral, digits_value, without_leading_plus}
use Rattle.fast_float.specs.Text.{Parts, scan, IsWellFormed}
use Rattle.fast_float.proofs.Writing.{scan-text_of}
use Rattle.serde_json.specs.Data.{unsigned}
use Rattle.serde_json.specs.Read.{number_of, number_from}

abbrev digits : List ℕ → Parts
digits ds = record { whole = ds; point = false; fraction = []; exponent_negative = false; exponent = []; len = length (ds ++ []) }

no_minus : (ds : List ℕ) → AllDigits 10 ds → 0 < length ds → get_or ds 0 0 ≡ 45 → ⊥
no_minus [] all some e = omega arith
no_minus (d ∷ ds) all some e = let digit : digit_value d < 10 = all.0 in let is : d ≡ 45 = e in grind arith

digits_from : (ds : List ℕ) → 0 < length ds → digits_value 10 ds < 2 ^ 64 → number_from false (digits ds) ≡ Some (unsigned (digits_value 10 ds))
digits_from ds some fits = rw (lt-ltb _ _ some, append-nil ds, lt-ltb _ _ fits) refl

-- digits that fit 64 bits are a whole number
pub number_of-digits : (ds : List ℕ) → IsNumeral 10 ds → digits_value 10 ds < 2 ^ 64 → number_of ds ≡ Some (unsigned (digits_value 10 ds))
unfolding number_of
number_of-digits ds is fits =
    let formed : IsWellFormed (digits ds) = record { whole_digits = is.1; fraction_digits = tt; exponent_digits = tt; no_point = λ _. refl; no_exponent = λ _. refl; len_is = refl } in
    let scanned : scan ds ≡ digits ds = ap scan (sym (append-nil ds)) ∙ scan-text_of (digits ds) formed in
    rw (ne_eqb (get_or ds 0 0) 45 (no_minus ds is.1 is.0)) (ap (number_from false) scanned ∙ digits_from ds is.0 fits)

pub no_plus : (s : List ℕ) → (get_or s 0 0 == 43) ≡ false → without_leading_plus s ≡ s
no_plus s bare = rw bare refl

-- A place of a list of devices as a number: 0 where it is empty, and else one more than its device.
use Rattle.std.specs.Prelude.{◌≡◌, ℕ, zero, suc, Option, Some, None, refl}
use Rattle.std.proofs.Common.{ap}
use Rattle.pgp_ids.specs.declared.place.Place.TheInside.{Inside}

abbrev pub place_with_code : ℕ → Option ℕ
place_with_code zero = None
place_with_code (suc osd) = Some osd

abbrev pub place_code : Option ℕ → ℕ
place_code None = 0
place_code (Some osd) = suc osd

-- a place gives its number back
pub same_code : (code : ℕ) → place_code (place_with_code code) ≡ code
same_code zero = refl
same_code (suc osd) = refl

pub code_of-place_of : (p : Inside) → record { code = place_code (place_with_code p.code) } ≡ p
code_of-place_of p = ap (λ (code : ℕ). let i : Inside = record { code = code } in i) (same_code p.code)

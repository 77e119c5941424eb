-- Lists of devices with empty places.
use Rattle.std.specs.Prelude.{ℕ, List, [], ◌∷◌, Option, Some, None, is_some, count_by}

-- the first device, past the empty places
abbrev pub first_osd : List (Option ℕ) → Option ℕ
first_osd [] = None
first_osd (Some osd ∷ places) = Some osd
first_osd (None ∷ places) = first_osd places

-- how many places hold a device
abbrev pub osd_count : List (Option ℕ) → ℕ
osd_count places = count_by is_some places

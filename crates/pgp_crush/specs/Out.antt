-- Which devices take part in a placement.
use Rattle.std.specs.Prelude.{ℕ, ◌%◌, ◌^◌, List, Bool, false, true, nat_eq, nat_le, nat_lt, if◌then◌else◌, slice_index}
use Rattle.pgp_hash.specs.Hash.{hash2}

-- A device of weight 0 is out, one of at least 0x10000 is in, and between them a hashed share of the inputs is.
unfoldable pub is_in_by : ℕ → ℕ → ℕ → Bool
is_in_by weight x osd =
    if nat_eq weight 0 then false else (if nat_le 0x10000 weight then true else nat_lt (hash2 x osd % 2 ^ 16) weight)

-- the device is in, by its weight in this list
abbrev pub is_in : List ℕ → ℕ → ℕ → Bool
is_in weights x osd = is_in_by (slice_index weights osd) x osd

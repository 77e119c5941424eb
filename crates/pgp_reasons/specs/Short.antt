-- What a group lacks whose acting set is too small to serve (this project's own words).
use Rattle.std.specs.Prelude.{ℕ, List, Option, Bool, nat_le, nat_lt, filter, flat_map}
use Rattle.pgp_code.specs.AnyCode.{is_by_place}
use Rattle.pgp_code.specs.declared.any.AnyCode.{AnyCode}
use Rattle.pgp_ids.specs.declared.past.Past.{Past}
use Rattle.pgp_interval.specs.ReadWrite.{acting_slots}
use Rattle.pgp_lists.specs.Ordered.{ascending}
use Rattle.pgp_prior.specs.Blocks.{down_osds}
use Rattle.pgp_sets.specs.declared.status.Status.{Status}
use Rattle.pgp_reasons.specs.Lacking.{lacking}
use Rattle.pgp_reasons.specs.declared.short.Short.{Short}

-- the interval didn't end before this epoch
abbrev pub is_since : ℕ → Past → Bool
is_since les interval = nat_le les interval.last

-- the acting devices, down now, of the past intervals since the group last began to serve
abbrev pub fallen : Bool → (ℕ → ℕ → Status) → ℕ → List Past → List ℕ
fallen by_place status les past = ascending nat_lt (flat_map (down_osds by_place status) (filter (is_since les) past))

-- how many more slots than those of these acting members would be enough, and who is down that served with them
abbrev pub short_of : AnyCode → (ℕ → ℕ → Status) → ℕ → List Past → List (Option ℕ) → Short
short_of code status les past acting =
    record { lacks = lacking code (acting_slots (is_by_place code) acting); fallen = fallen (is_by_place code) status les past }

-- Sets of devices that may have more than was put in (this project's own choice).
use Rattle.std.specs.Prelude.{◌≡◌, ℕ, ◌+◌, ◌/◌, ◌%◌, Bool, ◌&&◌, not, nat_eq, bit_and}
use Rattle.std.specs.Int.{bit_at}
use Rattle.pgp_shard.specs.declared.osd_filter.OsdFilter.{OsdFilter}

-- the set has the device, or may have it
pub record Covers (set : OsdFilter) (osd : ℕ) : Type 0 where
  pub low : bit_at set.low (osd % 64) ≡ 1
  pub high : bit_at set.high (osd / 64) ≡ 1
  pub sum : bit_at set.sum ((osd % 64 + osd / 64) % 64) ≡ 1

-- the new set has what the old one has
abbrev pub CoversStill : OsdFilter → OsdFilter → Type 0
CoversStill old new = (osd : ℕ) → Covers old osd → Covers new osd

-- both words have some bit
abbrev pub have_a_bit : ℕ → ℕ → Bool
have_a_bit one two = not (nat_eq (bit_and one two) 0)

-- some device may be in both sets: each of their words has a bit that the other's has
abbrev pub may_meet : OsdFilter → OsdFilter → Bool
may_meet one two = have_a_bit one.low two.low && (have_a_bit one.high two.high && have_a_bit one.sum two.sum)

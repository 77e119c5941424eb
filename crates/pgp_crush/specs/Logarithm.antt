-- The logarithm of a hash with which the items of a straw2 bucket draw: `crush_ln` of Ceph's src/crush/mapper.c. It adds up
-- entries of the tables of src/crush/crush_ln_table.h, in units of 2 ^ -48, which are here by their formulas. 45 entries aren't
-- what the formulas give, and count as they are.
use Rattle.std.specs.Prelude.{ℕ, zero, suc, ◌+◌, ◌-◌, ◌*◌, ◌/◌, ◌%◌, ◌^◌, List, [], ◌∷◌, nat_eq, nat_le, nat_lt, if◌then◌else◌, unwrap_or}
use Rattle.std.specs.List.{find, list_any}
use Rattle.std.specs.Option.{option_map_or}
use Rattle.pgp_crush.specs.Least.{greatest_below}

-- the first binary digits of a logarithm, as one number, and the number whose logarithm is what is left: it is from 1 on and
-- below 2, in units of 2 ^ -63
pub record Digits : Type 0 where
  pub digits : ℕ
  pub rest : ℕ

-- with one digit more: the square has twice the logarithm, and the digit is 1 where the square reaches 2
abbrev pub with_digit : Digits → ℕ → Digits
with_digit d square =
    if nat_lt square (2 ^ 64) then record { digits = 2 * d.digits; rest = square } else record { digits = 2 * d.digits + 1; rest = square / 2 }

-- the first n digits of the binary logarithm of y / 2 ^ 63
unfoldable pub log_digits : ℕ → ℕ → Digits
log_digits y zero = record { digits = 0; rest = y }
log_digits y (suc n) = let d = log_digits y n in with_digit d (d.rest * d.rest / 2 ^ 63)

-- 2 ^ 48 times that logarithm, the whole part, for a y from 2 ^ 63 on and below 2 ^ 64
abbrev pub binary_log : ℕ → ℕ
binary_log y = (log_digits y 48).digits

-- 2 ^ 48 / (1 + k / 128), rounded up, for a k up to 128
abbrev pub reciprocal : ℕ → ℕ
reciprocal k = (2 ^ 55 + 127 + k) / (128 + k)

-- the logarithm of 1 + k / 128, for a k up to 128; the last is below 1
abbrev pub coarse_log : ℕ → ℕ
coarse_log k = if nat_eq k 128 then 0xffff00000000 else binary_log ((128 + k) * 2 ^ 56)

-- an entry of a table at this place
pub record Entry : Type 0 where
  pub place : ℕ
  pub log : ℕ

-- the entries of the fine table that no formula gives
abbrev pub odd_entries : List Entry
odd_entries =
    record { place = 56; log = 0x0a2b07f3458 }
    ∷ record { place = 127; log = 0x16df6ca19bd }
    ∷ record { place = 134; log = 0x182b07f3458 }
    ∷ record { place = 181; log = 0x209c06e6212 }
    ∷ record { place = 184; log = 0x212b07f3458 }
    ∷ record { place = 188; log = 0x21d6a73a78f }
    ∷ record { place = 193; log = 0x22c23679b4e }
    ∷ record { place = 198; log = 0x23a2c3b0ea4 }
    ∷ record { place = 199; log = 0x23d13ee805b }
    ∷ record { place = 200; log = 0x24035e9221f }
    ∷ record { place = 207; log = 0x25492644d65 }
    ∷ record { place = 210; log = 0x25d13ee805b }
    ∷ record { place = 212; log = 0x26296453882 }
    ∷ record { place = 225; log = 0x287bdbf5255 }
    ∷ record { place = 227; log = 0x28d13ee805b }
    ∷ record { place = 228; log = 0x29035e9221f }
    ∷ record { place = 229; log = 0x29296453882 }
    ∷ record { place = 231; log = 0x29902a37aab }
    ∷ record { place = 235; log = 0x2a4c7605d61 }
    ∷ record { place = 236; log = 0x2a7bdbf5255 }
    ∷ record { place = 240; log = 0x2b296453882 }
    ∷ record { place = 241; log = 0x2b5d022d80f }
    ∷ record { place = 247; log = 0x2c61a5e8f4c }
    ∷ []

-- the places of its entries to which nothing is added
abbrev pub plain_places : List ℕ
plain_places = 0 ∷ 1 ∷ 203 ∷ 216 ∷ 222 ∷ 233 ∷ 237 ∷ 238 ∷ 239 ∷ 243 ∷ 244 ∷ 245 ∷ 246 ∷ 248 ∷ 249 ∷ 250 ∷ 251 ∷ 252 ∷ 253 ∷ 254 ∷ 255 ∷ []

-- the logarithm of 1 + i / 2 ^ 15, for an i below 256; most entries have 0x147700000 more
abbrev pub regular_log : ℕ → ℕ
regular_log i = binary_log ((2 ^ 15 + i) * 2 ^ 48) + (if list_any (nat_eq i) plain_places then 0 else 0x147700000)

abbrev pub fine_log : ℕ → ℕ
fine_log i = option_map_or (λ e. e.log) (find (λ e. nat_eq e.place i) odd_entries) (regular_log i)

-- the greatest p up to 15 with 2 ^ p ≤ x
abbrev pub power_of : ℕ → ℕ
power_of x = unwrap_or (greatest_below (λ p. nat_le (2 ^ p) x) 16) 0

-- 2 ^ 44 times the binary logarithm of hash + 1, about, for a hash of 16 bits: the power of 2 below it, and what the tables have
-- for hash + 1 over that power. The coarse table has it for that to the next 1/128 below, the fine table for what is left.
unfoldable pub logarithm : ℕ → ℕ
logarithm hash =
    let power = power_of (hash + 1) in
    let scaled = (hash + 1) * 2 ^ (15 - power) in
    let k = scaled / 2 ^ 8 - 128 in
    let i = (scaled * reciprocal k / 2 ^ 48) % 2 ^ 8 in
    power * 2 ^ 44 + (coarse_log k + fine_log i) / 2 ^ 4

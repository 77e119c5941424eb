-- The group of a hash among the b groups of a pool: `ceph_stable_mod` of Ceph's
-- src/include/rados.h, with the mask that `pg_pool_t::calc_pg_masks` makes of b. A pool may have
-- any number of groups. As it grows by one, an object stays or goes to the new group. At no groups, which no pool has, group
-- and mask are 0.
use Rattle.std.specs.Prelude.{ℕ, zero, suc, ◌-◌, ◌%◌, ◌^◌, nat_le, nat_lt, if◌then◌else◌}

-- the least k up to n with b ≤ 2 ^ k, for a b of at most 2 ^ n
unfoldable pub least_exponent : ℕ → ℕ → ℕ
least_exponent zero b = 0
least_exponent (suc n) b = if nat_le b (2 ^ n) then least_exponent n b else suc n

-- the k whose power 2 ^ k is the least that is at least b, for a b that is a word
abbrev pub exponent_of : ℕ → ℕ
exponent_of b = least_exponent 32 b

-- the least 2 ^ k - 1 that is at least b - 1
abbrev pub mask_of : ℕ → ℕ
mask_of b = 2 ^ exponent_of b - 1

-- x modulo the least power of two that is at least b, if that is below b, else modulo half of it
unfoldable pub stable_mod : ℕ → ℕ → ℕ
stable_mod x b =
    let k = exponent_of b in
    if nat_lt (x % 2 ^ k) b then x % 2 ^ k else x % 2 ^ (k - 1)

-- The hash of an object's name: Robert Jenkins' hash of a string of bytes, as `ceph_str_hash_rjenkins`
-- of Ceph's src/common/ceph_hash.cc.
use Rattle.std.specs.Prelude.{ℕ, zero, suc, ◌+◌, ◌*◌, ◌/◌, ◌^◌, List, length, drop, slice_index}
use Rattle.pgp_hash.specs.declared.mixing.Triple.{Triple}
use Rattle.pgp_hash.specs.Words.{word_sum}
use Rattle.pgp_hash.specs.Mix.{mix, triple_sum}

-- what the first two words start from: the fraction of the golden ratio, in units of 2 ^ -32
abbrev pub golden_ratio : ℕ
golden_ratio = 0x9e3779b9

-- the four bytes from place i as one number, the least significant first; a byte past the end is 0
abbrev pub number_at : List ℕ → ℕ → ℕ
number_at bytes i =
    slice_index bytes i + 256 * slice_index bytes (i + 1) + 256 ^ 2 * slice_index bytes (i + 2)
    + 256 ^ 3 * slice_index bytes (i + 3)

-- the first twelve bytes as three numbers
abbrev pub whole_block : List ℕ → Triple
whole_block bytes = record { a = number_at bytes 0; b = number_at bytes 4; c = number_at bytes 8 }

-- the fewer than twelve bytes that are left of a name of m bytes: as in a whole block, but that
-- the last number stands one byte higher, and the length is added to it
abbrev pub last_block : List ℕ → ℕ → Triple
last_block bytes m =
    record { a = number_at bytes 0; b = number_at bytes 4; c = word_sum (256 * number_at bytes 8) m }

-- the words after the first j blocks of twelve bytes
unfoldable pub words_after : List ℕ → ℕ → Triple
words_after name zero = record { a = golden_ratio; b = golden_ratio; c = 0 }
words_after name (suc j) = mix (triple_sum (words_after name j) (whole_block (drop (12 * j) name)))

-- the last of the three words, once the rest of the name is mixed in too
unfoldable pub name_hash : List ℕ → ℕ
name_hash name =
    let q = length name / 12 in
    (mix (triple_sum (words_after name q) (last_block (drop (12 * q) name) (length name)))).c

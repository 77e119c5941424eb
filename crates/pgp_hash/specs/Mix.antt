-- The mixing of three words by Robert Jenkins ("Hash Functions for Hash Table Lookup", 1995 to
-- 1997; "Algorithm Alley" in Dr. Dobb's Journal, September 1997), as in Ceph's src/crush/hash.c
-- and src/common/ceph_hash.cc.
use Rattle.std.specs.Prelude.{ℕ, bit_xor}
use Rattle.pgp_hash.specs.declared.mixing.Triple.{Triple}
use Rattle.pgp_hash.specs.Words.{word_sum, word_difference, shifted_left, shifted_right}

-- A line takes the two other words from one word, and gives it the exclusive or of what is left with
-- the word before it in the cycle a, b, c, shifted by k places.

-- a line that changes a: c is shifted to the right
unfoldable pub mix_a : ℕ → Triple → Triple
mix_a k t = record t { a = bit_xor (word_difference (word_difference t.a t.b) t.c) (shifted_right t.c k) }

-- a line that changes b: a is shifted to the left
unfoldable pub mix_b : ℕ → Triple → Triple
mix_b k t = record t { b = bit_xor (word_difference (word_difference t.b t.c) t.a) (shifted_left t.a k) }

-- a line that changes c: b is shifted to the right
unfoldable pub mix_c : ℕ → Triple → Triple
mix_c k t = record t { c = bit_xor (word_difference (word_difference t.c t.a) t.b) (shifted_right t.b k) }

-- the nine lines, in three rounds
unfoldable pub mix : Triple → Triple
mix t =
    let once = mix_c 13 (mix_b 8 (mix_a 13 t)) in
    let twice = mix_c 5 (mix_b 16 (mix_a 12 once)) in
    mix_c 15 (mix_b 10 (mix_a 3 twice))

-- the same of three words
abbrev pub mixed : ℕ → ℕ → ℕ → Triple
mixed a b c = mix (record { a = a; b = b; c = c })

-- the sum of two triples, word by word
unfoldable pub triple_sum : Triple → Triple → Triple
triple_sum t u = record { a = word_sum t.a u.a; b = word_sum t.b u.b; c = word_sum t.c u.c }

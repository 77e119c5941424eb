-- Words: numbers below 2 ^ 32, as unsigned words of 32 bits. What leaves the word is dropped.
use Rattle.std.specs.Prelude.{ℕ, ◌+◌, ◌-◌, ◌*◌, ◌/◌, ◌%◌, ◌^◌}

-- the sum of two words
abbrev pub word_sum : ℕ → ℕ → ℕ
word_sum x y = (x + y) % 2 ^ 32

-- the difference of two words: the sum of the first and of what the second lacks of 2 ^ 32
abbrev pub word_difference : ℕ → ℕ → ℕ
word_difference x y = (x + (2 ^ 32 - y)) % 2 ^ 32

-- a word shifted to the left by k places, which multiplies it by a power of two
abbrev pub shifted_left : ℕ → ℕ → ℕ
shifted_left x k = x * 2 ^ k % 2 ^ 32

-- a word shifted to the right by k places, which divides it by a power of two
abbrev pub shifted_right : ℕ → ℕ → ℕ
shifted_right x k = x / 2 ^ k

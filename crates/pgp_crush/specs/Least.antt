-- Least and greatest numbers that pass a test.
use Rattle.std.specs.Prelude.{ℕ, zero, suc, Bool, nat_lt, is_none, Option, Some, None, if◌then◌else◌}

-- the least of the n numbers from k on that passes
unfoldable pub least_from : (ℕ → Bool) → ℕ → ℕ → Option ℕ
least_from test k zero = None
least_from test k (suc n) = if test k then Some k else least_from test (suc k) n

-- the least number below n that passes
abbrev pub least_below : (ℕ → Bool) → ℕ → Option ℕ
least_below test n = least_from test 0 n

-- the greatest number below n that passes
unfoldable pub greatest_below : (ℕ → Bool) → ℕ → Option ℕ
greatest_below test zero = None
greatest_below test (suc n) = if test n then Some n else greatest_below test n

-- the first number below n at which f is least
abbrev pub first_least : (ℕ → ℕ) → ℕ → Option ℕ
first_least f n = least_below (λ k. is_none (least_below (λ j. nat_lt (f j) (f k)) n)) n

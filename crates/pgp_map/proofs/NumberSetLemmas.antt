-- Sets of numbers, by the bits of their words.
use Rattle.std.proofs.Common.{◌≡◌, ◌≢◌, ℕ, ◌*◌, ◌/◌, ◌%◌, ◌<◌, ◌^◌, List, length, set, get_or, get_or-set_other, get_or-set_same, bit_or, ◌||◌, nat_eq, w64, ap, ◌∙◌, inl, inr, arith, false}
use Rattle.std.proofs.lemmas.Bool.{cases_eq, cases_lt}
use Rattle.std.proofs.Common.{replicate}
use Rattle.std.specs.Int.{bit_at}
use Rattle.std.proofs.lemmas.Bool.Decides.{nat_tests}
use Rattle.std.proofs.lemmas.List.{get_or-replicate, get_or_past, length-replicate}
use Rattle.std.proofs.lemmas.Nat.Bits.{bit_at-zero, bit_at_set_same, bit_at_set_other}

pub zero-word : (place : ℕ) → get_or {A = ℕ} (replicate 64 0) place 0 ≡ 0
zero-word place = elim (cases_lt place 64) [
  | inl within ↦ get_or-replicate 64 place 0 0 within
  | inr past ↦ get_or_past (replicate 64 0) place 0 (omega (arith, past, length-replicate {A = ℕ} 64 0))
]

-- no number is in a set of words without bits
pub has-none : (n : ℕ) → nat_eq (bit_at (get_or {A = ℕ} (replicate 64 0) (n / 64) 0) (n % 64)) 1 ≡ false
has-none n = grind (arith, nat_tests, ap (λ word. bit_at word (n % 64)) (zero-word (n / 64)) ∙ bit_at-zero (n % 64))

-- the words after the bit of a number is set
abbrev pub with_number : List ℕ → ℕ → List ℕ
with_number words number = set words (number / 64) (bit_or (get_or words (number / 64) 0) (1 * 2 ^ (number % 64) % 2 ^ 64))

pub has-inserted : (words : List ℕ) (number n : ℕ) → number / 64 < length words
    → nat_eq (bit_at (get_or (with_number words number) (n / 64) 0) (n % 64)) 1 ≡ (nat_eq n number || nat_eq (bit_at (get_or words (n / 64) 0) (n % 64)) 1)
has-inserted words number n within =
    let word : ℕ = get_or words (number / 64) 0 in
    let now : ℕ = bit_or word (1 * 2 ^ (number % 64) % 2 ^ 64) in
    let small : number % 64 < 64 = omega arith in
    elim (cases_eq (n / 64) (number / 64)) [
      | inl same ↦
          let here : get_or (with_number words number) (n / 64) 0 ≡ now = ap (λ w. get_or (with_number words number) w 0) same ∙ get_or-set_same words (number / 64) now 0 within in
          let before : get_or words (n / 64) 0 ≡ word = ap (λ w. get_or words w 0) same in
          elim (cases_eq (n % 64) (number % 64)) [
            | inl there ↦
                let is : n ≡ number = omega (arith, same, there) in
                grind (arith, nat_tests, is, ap (λ w. bit_at w (n % 64)) here ∙ ap (bit_at now) there ∙ bit_at_set_same w64 word (number % 64) small)
            | inr apart ↦
                let unlike : n ≢ number = λ is. apart (ap (λ m. m % 64) is) in
                grind (arith, nat_tests, unlike, ap (λ w. bit_at w (n % 64)) here ∙ bit_at_set_other w64 word (number % 64) small (n % 64) apart, ap (λ w. bit_at w (n % 64)) before)
          ]
      | inr apart ↦
          let unlike : n ≢ number = λ is. apart (ap (λ m. m / 64) is) in
          grind (arith, nat_tests, unlike, ap (λ w. bit_at w (n % 64)) (get_or-set_other words (number / 64) (n / 64) now 0 apart))
    ]

pub has-inserted_at : (words : List ℕ) (number n place : ℕ) → place ≡ number / 64 → number / 64 < length words
    → nat_eq (bit_at (get_or (set words place (bit_or (get_or words place 0) (1 * 2 ^ (number % 64) % 2 ^ 64))) (n / 64) 0) (n % 64)) 1
    ≡ (nat_eq n number || nat_eq (bit_at (get_or words (n / 64) 0) (n % 64)) 1)
has-inserted_at words number n place is within = rw is (has-inserted words number n within)

-- How many sets a walk judges at most, and why it stops before its end.
use Rattle.std.proofs.Common.{◌≡◌, ℕ, zero, suc, ◌+◌, ◌-◌, ◌<◌, ◌≤◌, List, [], ◌∷◌, ◌++◌, length, add-one, zero-add, suc-add, refl, ap, sym, ◌∙◌, subst, inl, inr, arith}
use Rattle.std.proofs.lemmas.List.{length-append}
use Rattle.pgp_reasons.specs.kept.Looks.{looks_of, looks_below, most_looks, HasStopped}

-- ---- how many sets are judged

pub some_looks : (size left rest : ℕ) → 0 < looks_of size left rest
some_looks size zero rest = omega arith
some_looks size (suc left) zero = omega arith
some_looks size (suc left) (suc rest) = omega arith

-- the sets with the first of the rest, and those without it
looks-some : (size left others : ℕ) → 0 < left → looks_of size left (suc others) ≡ looks_of size (left - 1) others + looks_of size left others + 1
looks-some size zero others some = absurd (omega (arith, some))
looks-some size (suc left) others some =
    let less : left ≡ suc left - 1 = omega arith in
    ap (λ n. looks_of size n others + looks_of size (suc left) others + 1) less

-- a longer rest never takes fewer looks
longer-rest : (size left rest : ℕ) → looks_of size left rest ≤ looks_of size left (suc rest)
longer-rest size zero rest = omega arith
longer-rest size (suc left) rest = omega arith

rest-more : (size left rest by : ℕ) → looks_of size left rest ≤ looks_of size left (by + rest)
rest-more size left rest zero = omega (arith, ap (looks_of size left) (zero-add rest))
rest-more size left rest (suc by) =
    omega (arith, rest-more size left rest by, longer-rest size left (by + rest), ap (looks_of size left) (suc-add by rest))

count-more : (count by size : ℕ) → looks_below count size ≤ looks_below (by + count) size
count-more count by zero = omega arith
count-more count by (suc size) = omega (arith, count-more count by size, rest-more size size count by)

size-more : (count by size : ℕ) → looks_below count size ≤ looks_below count (by + size)
size-more count zero size = omega (arith, ap (looks_below count) (zero-add size))
size-more count (suc by) size = omega (arith, size-more count by size, ap (looks_below count) (suc-add by size))

-- of nine devices all sets are judged
pub few-looks : (count size : ℕ) → count ≤ 9 → size ≤ count + 1 → looks_below count size < most_looks
few-looks count size few within =
    let counts : (9 - count) + count ≡ 9 = omega (arith, few) in
    let sizes : (10 - size) + size ≡ 10 = omega (arith, few, within) in
    let more : looks_below count size ≤ looks_below 9 size = subst (λ n. looks_below count size ≤ looks_below n size) counts (count-more count (9 - count) size) in
    let all : looks_below 9 size ≤ looks_below 9 10 = subst (λ n. looks_below 9 size ≤ looks_below 9 n) sizes (size-more 9 (10 - size) size) in
    let many : looks_below 9 10 ≡ 7926 = refl in
    omega (arith, more, all, many)

-- the looks at one size after those at the smaller ones
pub next-size : (count size chosen before now : ℕ) → chosen ≡ 0 → most_looks ≤ before + looks_below count size → before ≤ now + looks_of (chosen + size) size count
    → most_looks ≤ now + looks_below count (size + 1)
next-size count size chosen before now none first then' =
    let same : looks_of (chosen + size) size count ≡ looks_of size size count = ap (λ n. looks_of n size count) (omega (arith, none)) in
    let all : looks_below count (size + 1) ≡ looks_below count size + looks_of size size count = ap (looks_below count) (add-one size) in
    omega (arith, first, then', same, all)

-- a walk through the sets with the first of the rest, and then those without it
module _ (chosen pushed popped : List ℕ) (left osd : ℕ) (rest others : List ℕ) (some : 0 < left) (cut : rest ≡ osd ∷ others) (push : pushed ≡ chosen ++ osd ∷ []) (pop : popped ≡ chosen) where
  pub with-first : looks_of (length chosen + left) left (length rest) ≡ looks_of (length pushed + (left - 1)) (left - 1) (length others) + looks_of (length popped + left) left (length others) + 1
  with-first =
      let size : length pushed + (left - 1) ≡ length chosen + left = omega (arith, some, ap length push, length-append chosen (osd ∷ [])) in
      let same : length popped + left ≡ length chosen + left = ap (λ (l : List ℕ). length l + left) pop in
      ap (λ (l : List ℕ). looks_of (length chosen + left) left (length l)) cut
      ∙ looks-some (length chosen + left) left (length others) some
      ∙ (λ i. looks_of (sym size i) (left - 1) (length others) + looks_of (sym same i) left (length others) + 1)

  pub counted-look : (old between after : ℕ) → old ≤ between + looks_of (length pushed + (left - 1)) (left - 1) (length others) → between ≤ after + 1
      → old + 1 ≤ after + looks_of (length chosen + left) left (length rest)
  counted-look old between after first look = omega (arith, first, look, with-first, some_looks (length popped + left) left (length others))

-- ---- why a walk stopped

pub stopped-more : (looks : ℕ) (all more listed : List (List ℕ)) → HasStopped looks all listed → HasStopped looks (all ++ more) listed
stopped-more looks all more listed (inl full) = inl (full.0, omega (arith, full.1, length-append all more))
stopped-more looks all more listed (inr none) = inr none

pub stopped-same : (looks : ℕ) (all other listed same : List (List ℕ)) → all ≡ other → listed ≡ same → HasStopped looks all listed → HasStopped looks other same
stopped-same looks all other listed same is be stopped = subst (λ (l : List (List ℕ)). HasStopped looks other l) be (subst (λ (l : List (List ℕ)). HasStopped looks l listed) is stopped)

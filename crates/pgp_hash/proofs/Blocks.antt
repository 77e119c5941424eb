-- The blocks of twelve bytes of a name.
use Rattle.std.proofs.Common.{◌≡◌, ℕ, zero, suc, ◌+◌, ◌*◌, ◌/◌, ◌<◌, List, [], length, get_or, take, drop, arith, refl, ap, ap₂, ◌∙◌, add-one}
use Rattle.std.proofs.lemmas.List.{get_or-take, drop-drop}
use Rattle.std.specs.Simd.{first_chunks}
use Rattle.pgp_hash.specs.declared.mixing.Triple.{Triple}
use Rattle.pgp_hash.specs.Mix.{mix, triple_sum}
use Rattle.pgp_hash.specs.NameHash.{number_at, whole_block, last_block, words_after, name_hash}

-- chunk i of n elements each is the first n elements from place n * i
chunk_at : (n count i : ℕ) (xs d : List ℕ) → i < count → get_or (first_chunks n count xs) i d ≡ take n (drop (n * i) xs)
chunk_at n zero i xs d below = absurd (omega arith)
chunk_at n (suc count) zero xs d below = let none : n * 0 ≡ 0 = omega arith in rw none refl
chunk_at n (suc count) (suc i) xs d below =
    let further : n + n * i ≡ n * suc i = omega arith in
    chunk_at n count i (drop n xs) d (omega arith)
    ∙ rw (drop-drop (n * i) n xs, further) refl

-- a number that lies within a block is the same in what the block was taken from
number_at-take : (xs : List ℕ) (i : ℕ) → i + 3 < 12 → number_at (take 12 xs) i ≡ number_at xs i
number_at-take xs i within =
    let byte0 = get_or-take 12 xs i 0 (omega arith) in
    let byte1 = get_or-take 12 xs (i + 1) 0 (omega arith) in
    let byte2 = get_or-take 12 xs (i + 2) 0 (omega arith) in
    let byte3 = get_or-take 12 xs (i + 3) 0 (omega arith) in
    rw (byte0, byte1, byte2, byte3) refl

-- and so are the block's three numbers
whole_block-take : (xs : List ℕ) → whole_block (take 12 xs) ≡ whole_block xs
whole_block-take xs =
    rw (number_at-take xs 0 (omega arith), number_at-take xs 4 (omega arith), number_at-take xs 8 (omega arith)) refl

-- one more block leads from the words after i blocks to those after i + 1
pub words_after_next : (name : List ℕ) (blocks : List (List ℕ)) (i : ℕ) (before block sum after : Triple)
    → blocks ≡ first_chunks 12 (length name / 12) name → i < length name / 12
    → before ≡ words_after name i → block ≡ whole_block (get_or blocks i [])
    → sum ≡ triple_sum before block → after ≡ mix sum → after ≡ words_after name (i + 1)
unfolding words_after
words_after_next name blocks i before block sum after chunks below old here added mixed =
    let chunk : get_or blocks i [] ≡ take 12 (drop (12 * i) name) =
    ap (λ (bs : List (List ℕ)). get_or bs i []) chunks ∙ chunk_at 12 (length name / 12) i name [] below in
    let numbers : block ≡ whole_block (drop (12 * i) name) =
    here ∙ ap whole_block chunk ∙ whole_block-take (drop (12 * i) name) in
    rw (add-one, ← old, ← numbers, ← added) mixed

-- after the last whole block the rest gives the hash
pub name_hash_from_rest : (name rest : List ℕ) (i : ℕ) (before last sum after : Triple)
    → i ≡ length name / 12 → rest ≡ drop (length name / 12 * 12) name
    → before ≡ words_after name i → last ≡ last_block rest (length name)
    → sum ≡ triple_sum before last → after ≡ mix sum → after.c ≡ name_hash name
unfolding name_hash
name_hash_from_rest name rest i before last sum after all left old here added mixed =
    let order : length name / 12 * 12 ≡ 12 * (length name / 12) = omega arith in
    let rest_is : rest ≡ drop (12 * (length name / 12)) name = left ∙ ap (λ n. drop n name) order in
    let before_is : before ≡ words_after name (length name / 12) = old ∙ ap (words_after name) all in
    let last_is : last ≡ last_block (drop (12 * (length name / 12)) name) (length name) =
    here ∙ ap (λ r. last_block r (length name)) rest_is in
    ap (λ (t : Triple). t.c) (mixed ∙ ap mix (added ∙ ap₂ triple_sum before_is last_is))

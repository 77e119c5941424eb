-- Erasure codes are told apart by their number of data shards, and grouped codes by their parts. What a pool says of its
-- code.
use Rattle.std.proofs.Common.{◌≡◌, ℕ, zero, suc, ◌≤◌, List, [], ◌∷◌, Option, Bool, true, false, ◌&&◌, not, nat_le, length, max, refl, ap, subst, arith}
use Rattle.std.specs.List.{list_any, list_all}
use Rattle.std.specs.Option.{is_some}
use Rattle.pgp_ids.specs.SlotSet.{is_below}
use denote.Struct.Props.{props}
use Rattle.pgp_ids.specs.Parts.{parts_of, is_part, are_apart, are_parts}
use Rattle.pgp_ids.specs.Pool as pool
use Rattle.pgp_ids.specs.declared.part.Part.{Part}
use Rattle.pgp_ids.specs.declared.pool.PoolKind.{PoolKind}
use Rattle.pgp_ids.specs.declared.pool.PoolKind.TheVariants as kind
use Rattle.pgp_code.specs.AnyCode.{enough_of, is_by_place}
use Rattle.pgp_code.specs.Parts.{enough_parts, want_slots}
use Rattle.pgp_code.specs.Pool.{one_le_suc, shards, parts_or_shard, parts, code_of}
use Rattle.pgp_code.specs.declared.grouped.Grouped.{Grouped}
use Rattle.pgp_code.specs.declared.any.AnyCode.TheVariants as code
use Rattle.pgp_code.specs.declared.erasure.Erasure.{Erasure}

le_is_prop : (m n : ℕ) → IsProp (m ≤ n)
le_is_prop m n = hlevel props

-- equal numbers make equal codes
same_code : (code : Erasure) (k : ℕ) → code.k ≡ k → (some : 1 ≤ k) → code ≡ record { k = k; at_least_one = some }
same_code code k e =
    let P : ℕ → Type 0 = λ n. (some : 1 ≤ n) → code ≡ record { k = n; at_least_one = some } in
    subst P e (λ some. ap (λ p. record { k = code.k; at_least_one = p }) (le_is_prop 1 code.k code.at_least_one some))

pub shards-same : (made : Erasure) (k : ℕ) → made.k ≡ max k 1 → code.Erasure made ≡ shards k
shards-same made zero e = ap (λ c. code.Erasure c) (same_code made 1 (omega (arith, e)) (one_le_suc 0))
shards-same made (suc k) e = ap (λ c. code.Erasure c) (same_code made (suc k) (omega (arith, e)) (one_le_suc k))

true_is_prop : (a : Bool) → IsProp (a ≡ true)
true_is_prop a = hlevel props

made_parts : (made : Grouped) (want : Bool) (answer : want_slots made.groups ≡ want) → code.Grouped made ≡ parts_or_shard made.groups want answer
made_parts made true answer = ap (λ p. code.Grouped (record { groups = made.groups; wanted = p })) (true_is_prop (want_slots made.groups) made.wanted answer)
made_parts made false answer = let wanted = made.wanted in cc

-- the code that was made of these parts is theirs
pub parts-same : (made : Grouped) (groups : List (Option Part)) → made.groups ≡ groups → code.Grouped made ≡ parts groups
parts-same made groups same =
    let P : List (Option Part) → Type 0 = λ g. code.Grouped made ≡ parts g in
    subst P same (made_parts made (want_slots made.groups) refl)

-- parts that no code can be made of stand for one data shard
unwanted : (groups : List (Option Part)) (want : Bool) (answer : want_slots groups ≡ want) → want ≡ false → parts_or_shard groups want answer ≡ shards 1
unwanted groups true answer none = cc
unwanted groups false answer none = refl

pub parts-none : (groups : List (Option Part)) → want_slots groups ≡ false → parts groups ≡ shards 1
parts-none groups none = unwanted groups (want_slots groups) refl none

-- a pool and its code place members alike
placed : (groups : List (Option Part)) (want : Bool) (answer : want_slots groups ≡ want) → is_by_place (parts_or_shard groups want answer) ≡ true
placed groups true answer = refl
placed groups false answer = refl

pub is_by_place-code_of : (kind : PoolKind) → is_by_place (code_of kind) ≡ pool.is_kind_by_place kind
is_by_place-code_of kind.Replicated = refl
is_by_place-code_of (kind.Erasure zero) = refl
is_by_place-code_of (kind.Erasure (suc k)) = refl
is_by_place-code_of (kind.Grouped groups) = placed groups (want_slots groups) refl

-- parts that a map takes want slots
least_and_rest : (once below some enough rest : Bool) → (((once && below && some) && enough) && rest) ≡ true → (some ≡ true) × (rest ≡ true)
least_and_rest once below some enough rest all = (grind arith, grind arith)

each_wants : (size : ℕ) (groups : List Part) → list_all (is_part size) groups ≡ true → list_all (λ part. nat_le 1 part.least) groups ≡ true
each_wants size [] all = refl
each_wants size (part ∷ groups) all =
    let both = least_and_rest (not part.twice) (is_below size part.slots) (nat_le 1 part.least) (nat_le part.least (length part.slots)) (list_all (is_part size) groups) all in
    rw (both.0, each_wants size groups both.1) refl

first_two : (some each apart : Bool) → (some && each && apart) ≡ true → (some ≡ true) × (each ≡ true)
first_two some each apart all = (grind arith, grind arith)

pub are_parts-want : (size : ℕ) (groups : List (Option Part)) → are_parts size groups ≡ true → want_slots groups ≡ true
are_parts-want size groups all =
    let both = first_two (list_any is_some groups) (list_all (is_part size) (parts_of groups)) (are_apart (parts_of groups)) all in
    rw (both.0, each_wants size (parts_of groups) both.1) refl

-- and they are a code of their own
own : (groups : List (Option Part)) (slots : List ℕ) (want : Bool) (answer : want_slots groups ≡ want) → want ≡ true → enough_of (parts_or_shard groups want answer) slots ≡ enough_parts groups slots
own groups slots true answer some = refl
own groups slots false answer some = cc

pub enough_of-parts : (size : ℕ) (groups : List (Option Part)) (slots : List ℕ) → are_parts size groups ≡ true → enough_of (code_of (kind.Grouped groups)) slots ≡ enough_parts groups slots
enough_of-parts size groups slots all = own groups slots (want_slots groups) refl (are_parts-want size groups all)

pub ruleset pool_laws = (is_by_place-code_of, enough_of-parts)

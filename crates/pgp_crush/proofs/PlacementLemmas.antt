-- The placement that is computed is the one, and it has its size.
use Rattle.std.proofs.Common.{◌≡◌, ◌≤◌, ℕ, zero, suc, List, length, Bool, true, false, refl, arith, sym, ◌∙◌, Option, Some, None, if◌then◌else◌}
use Rattle.std.proofs.lemmas.List.{length-map, length-replicate}
use Rattle.pgp_crush.specs.declared.rule.Rule.{Rule}
use Rattle.pgp_crush.specs.declared.indep.Cell.{Cell}
use Rattle.pgp_crush.specs.Bucket.{Bucket}
use Rattle.pgp_crush.specs.Candidate.{Input, input_of}
use Rattle.pgp_crush.specs.Cells.{indep}
use Rattle.pgp_crush.specs.FirstN.{pick_of, first_picks, first_n}
use Rattle.pgp_crush.specs.Out.{is_in}
use Rattle.pgp_crush.specs.Placement.{IsPlacedBy, IsPlacement, placement}
use Rattle.pgp_crush.proofs.FirstNLemmas.{with_pick-room}
use Rattle.pgp_crush.proofs.IndepLemmas.{after-size, indep-is, indep-by_table}

placed-is : (b : Bool) (i : Input) (n : ℕ) → IsPlacedBy b i n (if b then indep i n else first_n i n)
placed-is true i n = indep-is i n
placed-is false i n = refl

pub placement-is : (tree : Option (List Bucket)) (rule : Rule) (weights : List ℕ) (x n : ℕ) → IsPlacement tree rule weights x n (placement tree rule weights x n)
placement-is None rule weights x n = refl
placement-is (Some tree) rule weights x n = placed-is rule.indep (input_of tree weights x rule.leaf) n

placed-only : (b : Bool) (i : Input) (n : ℕ) (places : List (Option ℕ)) → IsPlacedBy b i n places → places ≡ (if b then indep i n else first_n i n)
placed-only true i n places is = is.places_are ∙ sym (indep-by_table i n is.table is.is_table)
placed-only false i n places is = is

pub placement-only : (tree : Option (List Bucket)) (rule : Rule) (weights : List ℕ) (x n : ℕ) (places : List (Option ℕ)) → IsPlacement tree rule weights x n places
    → places ≡ placement tree rule weights x n
placement-only None rule weights x n places is = is
placement-only (Some tree) rule weights x n places is = placed-only rule.indep (input_of tree weights x rule.leaf) n places is

pub ruleset placements = (placement-is, placement-only)

-- ---- sizes

picks-size : (i : Input) (n : ℕ) → length (first_n i n) ≤ n
unfolding first_picks
picks-size i zero = omega arith
picks-size i (suc n) = omega (arith, picks-size i n, with_pick-room (first_picks i n) (pick_of i (first_picks i n) n))

pub placement-at_most : (tree : Option (List Bucket)) (rule : Rule) (weights : List ℕ) (x n : ℕ) → length (placement tree rule weights x n) ≤ n
placement-at_most tree rule weights x n = grind (arith, length-replicate {A = Option ℕ}, length-map {A = Cell} {B = Option ℕ}, after-size, picks-size)

pub placement-size : (tree : Option (List Bucket)) (rule : Rule) (weights : List ℕ) (x n : ℕ) → rule.indep ≡ true → length (placement tree rule weights x n) ≡ n
placement-size tree rule weights x n e = grind (arith, length-replicate {A = Option ℕ}, length-map {A = Cell} {B = Option ℕ}, after-size)

pub ruleset placement_sizes = (placement-at_most, placement-size)

-- ---- weights

-- what is placed on a tree, where the test says which devices are in
abbrev placed_by : List Bucket → Rule → ℕ → ℕ → (ℕ → Bool) → List (Option ℕ)
placed_by tree rule x n test =
    let i : Input = record { tree = tree; is_in = test; x = x; kind = rule.leaf } in if rule.indep then indep i n else first_n i n

pub placement_by_who_is_in : (tree : Option (List Bucket)) (rule : Rule) (weights others : List ℕ) (x n : ℕ) → ((osd : ℕ) → is_in others x osd ≡ is_in weights x osd)
    → placement tree rule others x n ≡ placement tree rule weights x n
placement_by_who_is_in None rule weights others x n same = refl
placement_by_who_is_in (Some tree) rule weights others x n same = λ i. placed_by tree rule x n (λ osd. same osd i)

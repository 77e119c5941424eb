-- What is lacking is nothing exactly where the slots are enough.
use Rattle.std.proofs.Common.{◌≡◌, ◌↔◌, ℕ, ◌+◌, List, [], ◌∷◌, Option, Some, None, true, refl, sym, ◌∙◌, arith}
use Rattle.std.specs.List.{sum_by}
use Rattle.std.proofs.lemmas.List.Sums.{sum_by-cons}
use Rattle.std.proofs.lemmas.Bool.Decides.{nat_tests}
use Rattle.pgp_ids.specs.Parts.{parts_of}
use Rattle.pgp_ids.specs.declared.part.Part.{Part}
use Rattle.pgp_code.specs.AnyCode.{enough_of}
use Rattle.pgp_code.specs.Enough.{and_left as first_of, and_right as rest_of}
use Rattle.pgp_code.specs.Parts.{enough_of_part, enough_parts}
use Rattle.pgp_code.specs.declared.any.AnyCode.{AnyCode}
use Rattle.pgp_code.specs.declared.any.AnyCode.TheVariants.{Replicated, Erasure, Grouped}
use Rattle.pgp_reasons.specs.Lacking.{lacking, lacking_of_part}

part-enough : (slots : List ℕ) (part : Part) → lacking_of_part slots part ≡ 0 → enough_of_part slots part ≡ true
part-enough slots part none = grind (arith, nat_tests)

part-none : (slots : List ℕ) (part : Part) → enough_of_part slots part ≡ true → lacking_of_part slots part ≡ 0
part-none slots part enough = grind (arith, nat_tests)

parts-enough : (slots : List ℕ) (groups : List (Option Part)) → sum_by (lacking_of_part slots) (parts_of groups) ≡ 0 → enough_parts groups slots ≡ true
parts-enough slots [] none = refl
parts-enough slots (None ∷ groups) none = parts-enough slots groups none
parts-enough slots (Some part ∷ groups) none =
    let all : ℕ = sum_by (lacking_of_part slots) (parts_of groups) in
    let both : lacking_of_part slots part + all ≡ 0 = sym (sum_by-cons (lacking_of_part slots) part (parts_of groups)) ∙ none in
    let first : enough_of_part slots part ≡ true = part-enough slots part (omega (arith, both)) in
    rw (first, parts-enough slots groups (omega (arith, both))) refl

parts-none : (slots : List ℕ) (groups : List (Option Part)) → enough_parts groups slots ≡ true → sum_by (lacking_of_part slots) (parts_of groups) ≡ 0
parts-none slots [] enough = refl
parts-none slots (None ∷ groups) enough = parts-none slots groups enough
parts-none slots (Some part ∷ groups) enough =
    let first = part-none slots part (first_of (enough_of_part slots part) (enough_parts groups slots) enough) in
    let rest = parts-none slots groups (rest_of (enough_of_part slots part) (enough_parts groups slots) enough) in
    sum_by-cons (lacking_of_part slots) part (parts_of groups) ∙ (λ i. first i + rest i)

pub lacks_none : (code : AnyCode) (slots : List ℕ) → (lacking code slots ≡ 0) ↔ (enough_of code slots ≡ true)
lacks_none (Replicated code) slots = (λ none. grind (arith, nat_tests), λ enough. grind (arith, nat_tests))
lacks_none (Erasure code) slots = (λ none. grind (arith, nat_tests), λ enough. grind (arith, nat_tests))
lacks_none (Grouped code) slots = (
  λ none. parts-enough slots code.groups (omega arith),
  λ enough. let none = parts-none slots code.groups enough in omega arith,
)

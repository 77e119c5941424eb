use Rattle.std.proofs.Common.{◌≡◌, ℕ, ◌≤◌, List, length, true, arith, sym, ◌∙◌}
use Rattle.std.proofs.lemmas.Grind.{common_steps}
use Rattle.std.specs.Cmp.{unsigned_Decides}
use Rattle.std.proofs.lemmas.Slice.Eq.{slice_eq-Decides}
use Rattle.pgp_map.specs.WeightTable.{is_full_weight, weight_in}
use Rattle.pgp_map.proofs.AlikeLemmas.{weights_Decides}
use Rattle.pgp_map.proofs.alike.are_weights_alike.Goals as goal

-- a table says of a number that no device has that it is fully in
beyond : (table : List ℕ) → is_full_weight (length table) ≡ true → (q : ℕ) → 4096 ≤ q → weight_in table q ≡ 65536
beyond table whole q above = grind (arith, common_steps)

pub returns : goal.returns
returns c =
    let table = c.args.weights.now.table.items in
    let other = c.args.other.now.table.items in
    weights_Decides c.as_slice.result.now c.as_slice-2.result.now (weight_in table) (weight_in other) c.as_slice.ensures.long c.as_slice-2.ensures.long
    c.as_slice.ensures.value c.as_slice-2.ensures.value
    (λ q above. beyond other c.args.other.now.whole q above ∙ sym (beyond table c.args.weights.now.whole q above))
    c.eq.result (slice_eq-Decides unsigned_Decides c.as_slice.result.now c.as_slice-2.result.now c.eq.result c.eq.ensures)

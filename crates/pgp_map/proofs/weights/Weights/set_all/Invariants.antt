use Rattle.std.proofs.Common.{◌≡◌, ◌<◌, ℕ, nat_eq, take, length}
use Rattle.pgp_lists.specs.Last.{last_where}
use Rattle.pgp_map.specs.WeightTable.{weight_in, with_weight}
use Rattle.pgp_map.proofs.weights.Weights.set_all.Given as goal

abbrev pub invariant-loop-entry : goal.invariant-loop-entry
invariant-loop-entry l = record {
  long : 0 < length l.given → length l.self.table.items ≡ 4096;
  after : (q : ℕ) → weight_in l.self.table.items q ≡ with_weight (last_where (λ entry. nat_eq entry.osd q) (take l.entry-index l.given)) (weight_in l.fn.self.table.items q);
}

use Rattle.std.proofs.Common.{◌≡◌, ℕ, nat_eq, take}
use Rattle.std.specs.HashSet.{contains}
use Rattle.std.specs.List.{flat_map}
use Rattle.std.specs.Set.{is_member}
use Rattle.pgp_join.specs.Bound.{begun_in}
use Rattle.pgp_join.proofs.bound.epochs_begun.Given as goal

abbrev pub invariant-loop-pg : goal.invariant-loop-pg
invariant-loop-pg l = record {
  same : l.log ≡ l.initial.log;
  has : (q : ℕ) → contains nat_eq l.epochs q ≡ is_member nat_eq (flat_map (begun_in l.initial.log) (take l.pg-index l.pg-items)) q;
}

use Rattle.std.proofs.Common.{inr, map, arith, ap, ◌∙◌}
use Rattle.std.specs.List.{list_any}
use Rattle.std.specs.Ordering.{int_eq}
use Rattle.pgp_crush.specs.Bucket.{bucket_of}
use Rattle.pgp_crush.specs.TreeFault.{tree_fault}
use Rattle.pgp_crush.proofs.FaultLemmas.{is_held_is}
use Rattle.pgp_crush.proofs.tree.root_and_index.Goals as goal

pub find_root-requires : goal.find_root-requires
find_root-requires c = λ q.
    c.in_ok-held.ensures.value q ∙ ap (list_any (int_eq q)) (c.deref.ensures.value ∙ c.in_ok-items.ensures.value) ∙ is_held_is (map bucket_of c.args.buckets.now) q

pub fault_below_root-requires-clause-held_is : goal.fault_below_root-requires-clause-held_is
fault_below_root-requires-clause-held_is c = λ q.
    c.in_ok-held.ensures.value q ∙ ap (list_any (int_eq q)) (c.deref.ensures.value ∙ c.in_ok-items.ensures.value) ∙ is_held_is (map bucket_of c.args.buckets.now) q

pub returns-in_default-clause-fault : goal.returns-in_default-clause-fault
unfolding tree_fault
returns-in_default-clause-fault c = inr (grind arith)

pub returns-in-Some-2-clause-fault : goal.returns-in-Some-2-clause-fault
unfolding tree_fault
returns-in-Some-2-clause-fault c = inr (grind arith)

pub returns-clause-ok : goal.returns-clause-ok
unfolding tree_fault
returns-clause-ok c = record {
  faultless = grind arith;
  placed = c.in-Some.ensures.within;
  rooted = c.in-Some.ensures.place;
  indexed = c.in_ok-index.ensures;
}

use Rattle.std.proofs.Common.{◌≡◌, ◌<◌, ◌≤◌, get_or, nat_lt, ap, sym, ◌∙◌, rules, arith}
use Rattle.std.proofs.lemmas.Bool.Decides.{nat_tests}
use Rattle.std.proofs.lemmas.List.{get_or_default}
use Rattle.std.proofs.lemmas.List.Sorted.{IsPartitionPoint-from_clause, IsPartitionedBy-ltb}
use Rattle.pgp_ids.specs.declared.past.Past.{Past}
use Rattle.pgp_interval.proofs.RaiseLemmas.{lasts_rise, held_at_point, held_by_none_else}
use Rattle.pgp_interval.proofs.raise.place_of.Goals as goal
use Rattle.pgp_interval.proofs.raise.place_of.Goals.{else-place-past-via-then-place-past+else-le, else-place-past-via-else-place-past}

pub returns-then-le-clause-here : goal.returns-then-le-clause-here
returns-then-le-clause-here c = λ order d.
    let parted = IsPartitionedBy-ltb (λ p. p.last) _ c.args.epoch (lasts_rise c.args.past.now order) in
    let point = IsPartitionPoint-from_clause (λ p. nat_lt p.last c.args.epoch) _ _ c.partition_point-place.ensures.partitioned parted (λ a r q k. search rules) in
    let opened : c.index-past-place.result.first ≤ c.args.epoch = grind (arith, nat_tests) in
    let is : get_or c.args.past.now c.partition_point-place.result d ≡ c.index-past-place.result = get_or_default c.args.past.now c.partition_point-place.result d c.index-past-place.result c.if-place-past.true ∙ sym c.index-past-place.is in
    held_at_point c.args.epoch c.args.past.now _ point c.if-place-past.true d (omega (arith, ap (λ (p : Past). p.first) is, opened))

pub returns-then-le-clause-others : goal.returns-then-le-clause-others
returns-then-le-clause-others c = λ order place d below other.
    let parted = IsPartitionedBy-ltb (λ p. p.last) _ c.args.epoch (lasts_rise c.args.past.now order) in
    let point = IsPartitionPoint-from_clause (λ p. nat_lt p.last c.args.epoch) _ _ c.partition_point-place.ensures.partitioned parted (λ a r q k. search rules) in
    held_by_none_else c.args.epoch c.args.past.now _ order point place d below (λ same. absurd (other cc))

pub returns-else-place-past-clause-others : goal.returns-else-place-past-clause-others
returns-else-place-past-clause-others c = λ order place d below other.
    let parted = IsPartitionedBy-ltb (λ p. p.last) _ c.args.epoch (lasts_rise c.args.past.now order) in
    let point = IsPartitionPoint-from_clause (λ p. nat_lt p.last c.args.epoch) _ _ c.partition_point-place.ensures.partitioned parted (λ a r q k. search rules) in
    held_by_none_else c.args.epoch c.args.past.now _ order point place d below (λ same. elim c.else-place-past.branch [
      | else-place-past-via-then-place-past+else-le w ↦
          let late : c.args.epoch < w.index-past-place.result.first = grind (arith, nat_tests) in
          let at : get_or c.args.past.now place d ≡ w.index-past-place.result = ap (λ k. get_or c.args.past.now k d) same ∙ get_or_default c.args.past.now c.partition_point-place.result d w.index-past-place.result w.if-place-past.true ∙ sym w.index-past-place.is in
          omega (arith, ap (λ (p : Past). p.first) at, late)
      | else-place-past-via-else-place-past w ↦ absurd (omega arith)
    ])

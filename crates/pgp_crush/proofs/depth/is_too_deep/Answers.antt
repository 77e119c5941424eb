use Rattle.std.proofs.Common.{◌≡◌, [], map, rules, tests, arith, sym, ap, ◌∙◌}
use Rattle.std.specs.List.{filter}
use Rattle.std.proofs.lemmas.Iterator.{YieldsList-from_slice}
use Rattle.std.proofs.lemmas.Iterator.Search.{any_from_yields_List}
use Rattle.std.proofs.lemmas.List.{nil_from_length}
use Rattle.std.proofs.lemmas.Bool.Decides.{nat_tests}
use Rattle.std.specs.Ordering.{int_eq}
use Rattle.std.specs.HashSet as bag
use Rattle.pgp_crush.specs.Bucket.{Bucket, bucket_of}
use Rattle.pgp_crush.specs.TreeFault.{items_of, below_levels}
use Rattle.pgp_crush.proofs.FaultLemmas.{below_levels-none, is_held_is, any-filter, below_levels-more}
use Rattle.pgp_lists.proofs.Lists.{any-mapped}
use Rattle.pgp_crush.proofs.depth.is_too_deep.Goals as goal

pub loop-level-init : goal.loop-level-init
unfolding below_levels
loop-level-init c = (λ i. filter (λ b. c.requires b.id i) (map bucket_of c.args.buckets.now))

pub loop-level-preserved : goal.loop-level-preserved
loop-level-preserved c =
    let tree = map bucket_of c.args.buckets.now in
    below_levels-more tree c.loop-level._level (bag.contains int_eq c.in_ok-below.below) (λ q. grind (arith, is_held_is))

pub returns : goal.returns
returns c =
    let last : c.loop-level._level ≡ 10 = omega arith in
    let passes = λ (b : Bucket). bag.contains int_eq c.loop-level.below b.id in
    rw (← (rw last at c.loop-level.invariant), any-filter passes (map bucket_of c.args.buckets.now), any-mapped bucket_of passes c.args.buckets.now)
    (any_from_yields_List _ _ _ _ c.any.ensures.ran (YieldsList-from_slice c.args.buckets.now cc) (λ x b q k. search (rules, tests)))

pub returns-then-is_empty : goal.returns-then-is_empty
returns-then-is_empty c =
    let none : c.in_ok-items.items.items ≡ [] = nil_from_length _ (grind (arith, nat_tests)) in
    rw (below_levels-none (map bucket_of c.args.buckets.now) c.loop-level._level 10 (ap items_of (sym c.loop-level.invariant) ∙ sym c.in_ok-items.ensures ∙ none) (omega arith))

use Rattle.std.proofs.Common.{◌≡◌, map}
use Rattle.std.specs.List.{filter}
use Rattle.std.specs.Ordering.{int_eq}
use Rattle.std.specs.HashSet as bag
use Rattle.pgp_crush.specs.Bucket.{bucket_of}
use Rattle.pgp_crush.specs.TreeFault.{below_levels}
use Rattle.pgp_crush.proofs.depth.is_too_deep.Given as goal

abbrev pub invariant-loop-level : goal.invariant-loop-level
invariant-loop-level l = filter (λ b. bag.contains int_eq l.below b.id) (map bucket_of l.buckets) ≡ below_levels (map bucket_of l.buckets) l._level

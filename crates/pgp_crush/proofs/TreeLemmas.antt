-- What stands in a list of buckets, and what follows from a tree's being checked.
use Rattle.std.proofs.Common.{◌≡◌, ℕ, ◌<◌, ◌^◌, ◌-◌, Bool, ◌+◌, List, [], ◌∷◌, map, sum, slice_get, cond, refl, arith, ap, sym, Option, Some, None, IfSome, Bor, false, nat_lt}
use Rattle.std.specs.List.{find, position_from}
use Rattle.std.specs.Option.{option_and_then, option_map, option_copied}
use Rattle.std.proofs.lemmas.Bool.Decides.{nat_tests}
use Rattle.std.proofs.lemmas.Iterator.Adapters.{position_from-zero}
use Rattle.std.proofs.lemmas.List.Folds.{find_at}
use Rattle.std.proofs.lemmas.Option.{slice_get-map, slice_get_past, slice_get_cases}
use Rattle.std.proofs.lemmas.Int.{to_z-of_z}
use Rattle.pgp_lists.proofs.Members.{find-some, none-contains}
use Rattle.pgp_ids.specs.declared.bucket.BucketSpec.{BucketSpec}
use Rattle.pgp_crush.specs.Bucket.{Bucket, bucket_of}
use Rattle.pgp_crush.proofs.FaultLemmas.{none-counted}
use Rattle.pgp_crush.specs.TreeFault.{tree_fault, fault_below_root, has_too_much_weight}

-- ---- lists that are seen through a map

pub position_mapped : {X Y : Type 0} (f : X → Y) (test : Y → Bool) (xs : List X) (k : ℕ) → position_from test k (map f xs) ≡ position_from (λ x. test (f x)) k xs
position_mapped f test [] k = refl
position_mapped f test (x ∷ xs) k = ap (cond (test (f x)) (Some k)) (position_mapped f test xs (k + 1))

-- the first element that passes stands at the first place that does
pub found_at : {X : Type 0} (test : X → Bool) (xs : List X) → find test xs ≡ option_and_then (slice_get xs) (position_from test 0 xs)
found_at test xs = rw (find_at test xs, ← position_from-zero test xs) (grind (arith, slice_get_past, nat_tests))

-- what finds the root
pub ruleset root_steps = (found_at, position_mapped, none-counted)

-- what finds a bucket by its place
pub ruleset look_up_steps = (found_at, slice_get-map, slice_get_cases, nat_tests, to_z-of_z)

-- ---- a tree without fault

pub weights_fit : (tree : List Bucket) (test : Bucket → Bool) (r : Option (Bor BucketSpec)) → tree_fault tree ≡ None → option_map bucket_of (option_copied r) ≡ find test tree
    → IfSome r (λ b. sum b.now.weights < 2 ^ 32)
unfolding tree_fault fault_below_root
weights_fit tree test None h found = tt
weights_fit tree test (Some b) h found =
    let light : has_too_much_weight tree ≡ false = grind arith in
    let low = none-contains (λ b. nat_lt (2 ^ 32 - 1) (sum b.weights)) tree (bucket_of b.now) light (find-some test tree (bucket_of b.now) (sym found)).0 in
    grind (arith, nat_tests)

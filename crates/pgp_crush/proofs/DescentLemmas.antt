-- A way down, level by level.
use Rattle.std.proofs.Common.{◌≡◌, ℕ, ◌+◌, zero, suc, true, ℤ, List, [], refl, arith, ap, add-one, Option, Some, None}
use Rattle.std.proofs.lemmas.Bool.Decides.{nat_tests}
use Rattle.std.proofs.lemmas.Int.{ints, to_z-of_z}
use Rattle.std.specs.Option.{option_map_or}
use Rattle.std.specs.Ordering.{int_eq}
use Rattle.pgp_lists.proofs.Members.{find-some}
use Rattle.pgp_crush.specs.declared.descent.Rank.{Rank}
use Rattle.pgp_crush.specs.declared.descent.Descent.TheVariants.{Empty}
use Rattle.pgp_crush.specs.Bucket.{Bucket, bucket_at}
use Rattle.pgp_crush.specs.Choice.{choice}
use Rattle.pgp_crush.specs.Descent.{rank_at, path, step_of, at_step, first_stop}
use Rattle.pgp_crush.proofs.ChoiceLemmas.{choice-empty, choice-uniform, choice-list, choice-straw2}

-- the bucket found for an id has it
pub bucket_at-id : (tree : List Bucket) (id : ℤ) (b : Bucket) → bucket_at tree id ≡ Some b → b.id ≡ id
bucket_at-id tree id b h = let same : int_eq b.id id ≡ true = (find-some (λ b. int_eq b.id id) tree b h).1 in grind (arith, ints)

-- ---- the way down from a bucket

pub path-none : (tree : List Bucket) (x : ℕ) (rank : Rank) (levels : ℕ) → path tree x rank levels None ≡ []
unfolding path
path-none tree x rank zero = refl
path-none tree x rank (suc levels) = refl

-- no way leads down from no bucket
pub descent_from_none : (tree : List Bucket) (x : ℕ) (rank : Rank) (kind : ℕ) → first_stop tree kind (path tree x rank 10 None) ≡ Empty
unfolding first_stop
descent_from_none tree x rank kind = ap (first_stop tree kind) (path-none tree x rank 10)

pub down_end : (tree : List Bucket) (x : ℕ) (rank : Rank) (kind n : ℕ) (from : Option Bucket) → n ≡ 0 → first_stop tree kind (path tree x rank n from) ≡ Empty
unfolding path first_stop
down_end tree x rank kind n from e = ap (λ (k : ℕ). first_stop tree kind (path tree x rank k from)) e

-- what the way down comes to at its next level
pub down-more : (tree : List Bucket) (x : ℕ) (rank : Rank) (kind m : ℕ) (b : Bucket) → first_stop tree kind (path tree x rank (m + 1) (Some b))
    ≡ option_map_or (λ item. at_step tree kind (step_of item (rank_at rank b)) (λ b. first_stop tree kind (path tree x rank m (Some b)))) (choice x (rank_at rank b) b) Empty
unfolding path first_stop
down-more tree x rank kind m b = rw add-one (grind (arith, path-none))

-- what a level comes to, by what its bucket chooses
pub ruleset level_steps = (down-more, choice-empty, choice-uniform, choice-list, choice-straw2, nat_tests, to_z-of_z)

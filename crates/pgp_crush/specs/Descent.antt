-- The way down from a bucket: the item chosen in it, the item chosen in that bucket, and so on.
use Rattle.std.specs.Prelude.{ℕ, ℤ, zero, suc, ◌+◌, ◌*◌, ◌%◌, List, [], ◌∷◌, length, Bool, false, ◌||◌, Option, Some, None, nat_eq, if◌then◌else◌}
use Rattle.std.specs.List.{find}
use Rattle.std.specs.Option.{option_map_or}
use Rattle.pgp_ids.specs.declared.bucket.BucketAlg.{BucketAlg}
use Rattle.pgp_ids.specs.declared.bucket.BucketAlg.TheVariants.{Uniform, List as Weighed, Straw2}
use Rattle.pgp_crush.specs.declared.descent.Rank.{Rank}
use Rattle.pgp_crush.specs.declared.descent.Rank.TheVariants.{Same, Spread}
use Rattle.pgp_crush.specs.declared.descent.Step.{Step}
use Rattle.pgp_crush.specs.declared.descent.Descent.{Descent}
use Rattle.pgp_crush.specs.declared.descent.Descent.TheVariants.{Found, Early, Empty}
use Rattle.pgp_crush.specs.declared.level.Level.{Level}
use Rattle.pgp_crush.specs.declared.level.Level.TheVariants.{End, On}
use Rattle.pgp_crush.specs.Bucket.{Bucket, bucket_of, bucket_at, has_kind, is_device}
use Rattle.pgp_crush.specs.Choice.{choice}

-- a uniform bucket whose number of items is a multiple of n
abbrev pub is_multiple : BucketAlg → ℕ → ℕ → Bool
is_multiple Uniform items n = nat_eq (items % n) 0
is_multiple Weighed items n = false
is_multiple Straw2 items n = false

-- the number r with which a bucket chooses
abbrev pub rank_at : Rank → Bucket → ℕ
rank_at (Same r) b = r
rank_at (Spread position round n) b =
    if is_multiple b.alg (length b.items) n then position + (n + 1) * round else position + n * round

-- how many levels of buckets a path has at most
abbrev pub level_limit : ℕ
level_limit = 10

-- the first steps of the way down, of at most this many; it ends at a device and at an empty bucket
unfoldable pub path : List Bucket → ℕ → Rank → ℕ → Option Bucket → List Step
path tree x rank zero from = []
path tree x rank (suc levels) None = []
path tree x rank (suc levels) (Some b) = elim (choice x (rank_at rank b) b) [
  | None ↦ []
  | Some item ↦ record { item = item; r = rank_at rank b } ∷ path tree x rank levels (bucket_at tree item)
]

-- a step to the item, chosen with this number
abbrev pub step_of : ℤ → ℕ → Step
step_of item r = record { item = item; r = r }

-- what a step is at which a way down stops, if there is one: an item of the type sought, or a device before it
abbrev pub stop_at : List Bucket → ℕ → Option Step → Descent
stop_at tree kind None = Empty
stop_at tree kind (Some s) = if has_kind tree kind s.item then Found s else Early

-- what comes first among the steps of a way down
unfoldable pub first_stop : List Bucket → ℕ → List Step → Descent
first_stop tree kind steps = stop_at tree kind (find (λ s. has_kind tree kind s.item || is_device s.item) steps)

-- what the way down comes to at a step, where `below` says what it comes to from each bucket
abbrev pub at_step : List Bucket → ℕ → Step → (Bucket → Descent) → Descent
at_step tree kind s below =
    if has_kind tree kind s.item then Found s else (if is_device s.item then Early else option_map_or below (bucket_at tree s.item) Empty)

-- what a level comes to: the end of the way down, or what `below` says of the bucket into which it leads on
abbrev pub end_of : (Bucket → Descent) → Level → Descent
end_of below (End descent) = descent
end_of below (On next) = below (bucket_of next.now)

-- what the way down from a bucket comes to first
abbrev pub descent : List Bucket → ℕ → Rank → ℕ → Option Bucket → Descent
descent tree x rank kind from = first_stop tree kind (path tree x rank level_limit from)

-- the greatest number with which a bucket chooses
abbrev pub rank_limit : Rank → ℕ
rank_limit (Same r) = r
rank_limit (Spread position round n) = position + (n + 1) * round

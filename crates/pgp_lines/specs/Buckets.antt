-- The buckets of a placement tree in a line.
use Rattle.std.specs.Prelude.{ℕ, ℤ, pos, negsuc, List, [], ◌∷◌, codes, Option, Some, None, option_map, option_and_then, if◌then◌else◌}
use Rattle.std.specs.Str.{bytes_eq}
use Rattle.serde_json.specs.Data.{Data}
use Rattle.serde_json.specs.Find.{as_str}
use Rattle.pgp_ids.specs.declared.bucket.BucketAlg.{BucketAlg}
use Rattle.pgp_ids.specs.declared.bucket.BucketAlg.TheVariants.{Uniform, List as Weighed, Straw2}
use Rattle.pgp_ids.specs.declared.bucket.BucketSpec.{BucketSpec}
use Rattle.pgp_lines.specs.Shapes.{integer_in, list_of, has_only, field, ◌>>=◌}
use Rattle.pgp_lines.specs.Ids.{byte_in, word_in}
use Rattle.pgp_lines.specs.MadeBucket.{bucket_from}
use Rattle.pgp_lines.specs.declared.command.buckets.Head.{Head}

-- a bucket by its id, or a device by its number
abbrev pub bucket_item_in : Data → Option ℤ
bucket_item_in d = integer_in (negsuc 65535) (pos 65535) d

-- how a bucket of this name chooses
abbrev pub alg_named : List ℕ → Option BucketAlg
alg_named name =
    if bytes_eq name (codes "uniform") then Some Uniform
    else (if bytes_eq name (codes "list") then Some Weighed
    else (if bytes_eq name (codes "straw2") then Some Straw2 else None))

abbrev pub alg_in : Data → Option BucketAlg
alg_in d = option_and_then alg_named (as_str d)

-- the keys of a bucket's object
abbrev pub bucket_keys : BucketAlg → List (List ℕ)
bucket_keys Uniform = codes "alg" ∷ codes "id" ∷ codes "items" ∷ codes "type" ∷ []
bucket_keys Weighed = codes "alg" ∷ codes "id" ∷ codes "items" ∷ codes "type" ∷ codes "weights" ∷ []
bucket_keys Straw2 = codes "alg" ∷ codes "id" ∷ codes "items" ∷ codes "type" ∷ codes "weights" ∷ []

-- the weights, of which a uniform bucket has none
abbrev pub weights_in : BucketAlg → Data → Option (List ℕ)
weights_in Uniform d = Some []
weights_in Weighed d = field (codes "weights") (list_of word_in) d
weights_in Straw2 d = field (codes "weights") (list_of word_in) d

-- how a bucket chooses: an object with no keys but those of its kind
abbrev pub bucket_alg_in : Data → Option BucketAlg
bucket_alg_in d = do
  alg ← field (codes "alg") alg_in d
  if has_only (bucket_keys alg) d then Some alg else None

-- what a bucket is, its lists aside; its id is from -65536 to -1
abbrev pub head_in : Data → Option Head
head_in d = do
  alg ← bucket_alg_in d
  id ← field (codes "id") (integer_in (negsuc 65535) (negsuc 0)) d
  kind ← field (codes "type") byte_in d
  Some (record { alg = alg; id = id; kind = kind })

-- a bucket's object: its head and its lists; it has as many weights as items, or none
abbrev pub bucket_in : Data → Option BucketSpec
bucket_in d = do
  head ← head_in d
  items ← field (codes "items") (list_of bucket_item_in) d
  weights ← weights_in head.alg d
  bucket_from head.id head.kind head.alg items weights

-- the buckets of a tree; an empty list is a tree without buckets
abbrev pub tree_in : Data → Option (Option (List BucketSpec))
tree_in d = option_map Some (list_of bucket_in d)

-- What a checked tree keeps.
use Rattle.std.specs.Prelude.{List, map}
use Rattle.pgp_crush.specs.declared.tree.Tree.TheInside.{Inside}
use Rattle.pgp_crush.specs.Bucket.{Bucket, bucket_of}
use Rattle.pgp_crush.specs.kept.Indexed.{IsIndexed}

-- the buckets of a tree, in the order in which they were given
abbrev pub buckets_of : Inside → List Bucket
buckets_of t = map bucket_of t.buckets.items

-- its buckets have no fault, and its root and its index are theirs
abbrev pub IsChecked : Inside → Type 0
IsChecked t = IsIndexed t.buckets.items t.root t.index

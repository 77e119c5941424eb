-- Small lists of buckets for worked examples.
use Rattle.std.specs.Prelude.{ℕ, zero, suc, ℤ, pos, negsuc, [], ◌∷◌, List}
use Rattle.std.specs.List.{range_with_len}
use Rattle.std.specs.Prelude.{map}
use Rattle.pgp_ids.specs.declared.bucket.BucketAlg.TheVariants.{Uniform, List as Weighed, Straw2}
use Rattle.pgp_crush.specs.Bucket.{Bucket}

-- a uniform bucket
abbrev pub uniform : ℤ → ℕ → List ℤ → Bucket
uniform id kind items = record { id = id; kind = kind; alg = Uniform; items = items; weights = [] }

-- a list bucket of id -1 over devices 0 and 1
abbrev pub list_bucket : List ℕ → Bucket
list_bucket weights = record { id = negsuc 0; kind = 1; alg = Weighed; items = pos 0 ∷ pos 1 ∷ []; weights = weights }

-- a straw2 bucket of id -1
abbrev pub straw2 : List ℤ → List ℕ → Bucket
straw2 items weights = record { id = negsuc 0; kind = 1; alg = Straw2; items = items; weights = weights }

-- a uniform root over devices 0, 1 and 2
abbrev pub three_devices : List Bucket
three_devices = uniform (negsuc 0) 1 (pos 0 ∷ pos 1 ∷ pos 2 ∷ []) ∷ []

-- the weights of the first three devices, of which device 0 alone is in
abbrev pub one_in : List ℕ
one_in = 0x10000 ∷ 0 ∷ 0 ∷ []

-- a root of type 2 over device 0 alone
abbrev pub device_in_a_row : List Bucket
device_in_a_row = uniform (negsuc 0) 2 (pos 0 ∷ []) ∷ []

-- a root with no items
abbrev pub empty_root : List Bucket
empty_root = uniform (negsuc 0) 1 [] ∷ []

-- a root over two hosts of two devices each
abbrev pub two_hosts : List Bucket
two_hosts =
    uniform (negsuc 0) 2 (negsuc 1 ∷ negsuc 2 ∷ [])
    ∷ uniform (negsuc 1) 1 (pos 0 ∷ pos 1 ∷ [])
    ∷ uniform (negsuc 2) 1 (pos 2 ∷ pos 3 ∷ [])
    ∷ []

-- the weights of their four devices, of which the first and the last are in
abbrev pub outer_in : List ℕ
outer_in = 0x10000 ∷ 0 ∷ 0 ∷ 0x10000 ∷ []

-- a list root over devices 0 to 3, all of one weight
abbrev pub four_in_a_list : List Bucket
four_in_a_list =
    record {
      id = negsuc 0;
      kind = 1;
      alg = Weighed;
      items = pos 0 ∷ pos 1 ∷ pos 2 ∷ pos 3 ∷ [];
      weights = 0x10000 ∷ 0x10000 ∷ 0x10000 ∷ 0x10000 ∷ [];
    }
    ∷ []

-- the weights of four devices, all of which are in
abbrev pub four_in : List ℕ
four_in = 0x10000 ∷ 0x10000 ∷ 0x10000 ∷ 0x10000 ∷ []

-- n buckets, each in the one before it, the last of which holds device 0
abbrev pub chain : ℕ → ℕ → List Bucket
chain zero first = []
chain (suc zero) first = uniform (negsuc first) 1 (pos 0 ∷ []) ∷ []
chain (suc (suc n)) first = uniform (negsuc first) (suc (suc n)) (negsuc (suc first) ∷ []) ∷ chain (suc n) (suc first)

-- a root over devices 0 to n - 1
abbrev pub wide : ℕ → List Bucket
wide n = uniform (negsuc 0) 1 (map pos (range_with_len 0 n)) ∷ []

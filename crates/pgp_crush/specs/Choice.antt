-- How a bucket chooses one of its items, from the input x of a placement and a number r that
-- differs from try to try: the list buckets and the uniform buckets of CRUSH (Weil and others,
-- "CRUSH: Controlled, Scalable, Decentralized Placement of Replicated Data", 2006), and the straw2
-- buckets of Ceph (`bucket_straw2_choose` of its src/crush/mapper.c).
use Rattle.std.specs.Prelude.{ℕ, zero, suc, ℤ, ◌+◌, ◌-◌, ◌*◌, ◌/◌, ◌%◌, ◌^◌, List, Bool, Option, nat_eq, nat_lt, if◌then◌else◌, length, take, sum, slice_get, slice_index, slice_index_or, pos, unwrap_or}
use Rattle.std.specs.Int.{cast_unsigned, w32}
use Rattle.pgp_ids.specs.declared.bucket.BucketAlg.TheVariants.{Uniform, List as Weighed, Straw2}
use Rattle.pgp_hash.specs.Hash.{hash3, hash4}
use Rattle.pgp_crush.specs.Bucket.{Bucket}
use Rattle.pgp_crush.specs.Least.{greatest_below, first_least}
use Rattle.pgp_crush.specs.Logarithm.{logarithm}

-- an id as a word, in two's complement
abbrev pub word_of : ℤ → ℕ
word_of id = cast_unsigned w32 id

-- A list bucket, whose id is this word. Item i passes if its weight is above a hashed share of the weights up to its own.
abbrev pub weight_passes : ℕ → ℕ → ℕ → List ℤ → List ℕ → ℕ → Bool
weight_passes x r id items weights i =
    nat_lt (((hash4 x (word_of (slice_index_or items i (pos 0))) r id % 2 ^ 16) * sum (take (i + 1) weights)) / 2 ^ 16) (slice_index weights i)

-- the place of the last item that passes, else the first
unfoldable pub list_place : ℕ → ℕ → ℕ → List ℤ → List ℕ → ℕ
list_place x r id items weights = unwrap_or (greatest_below (weight_passes x r id items weights) (length items)) 0

-- A uniform bucket of n items, whose id is this word. Shuffling exchanges place p, for p = 0, 1, .., with a hashed place
-- that isn't before it.
abbrev pub partner_of : ℕ → ℕ → ℕ → ℕ → ℕ
partner_of x id n p = p + hash3 x id p % (n - p)

-- where the item stood, before p was exchanged with its partner, that stands at this place after
abbrev pub place_before : ℕ → ℕ → ℕ → ℕ → ℕ → ℕ
place_before x id n p place =
    if nat_eq place p then partner_of x id n p else (if nat_eq place (partner_of x id n p) then p else place)

-- where the item stood, before the first p exchanges, that stands at this place after them
unfoldable pub traced_back : ℕ → ℕ → ℕ → ℕ → ℕ → ℕ
traced_back x id n zero place = place
traced_back x id n (suc p) place = traced_back x id n p (place_before x id n p place)

-- the first place of the item that a full shuffle brings to place r modulo n
unfoldable pub uniform_place : ℕ → ℕ → ℕ → ℕ → ℕ
uniform_place x r id n = let q = r % n in traced_back x id n (q + 1) q

-- A straw2 bucket. What an item of this weight draws by a hash of 16 bits: Ceph's draw without its minus sign, so the least
-- wins. One of weight 0 loses to each other.
abbrev pub draw : ℕ → ℕ → ℕ
draw hash weight = if nat_eq weight 0 then 2 ^ 63 else (2 ^ 48 - logarithm hash) / weight

-- the hash by which the item at this place draws
abbrev pub hash_at : ℕ → ℕ → List ℤ → ℕ → ℕ
hash_at x r items i = hash3 x (word_of (slice_index_or items i (pos 0))) r

-- what it draws
abbrev pub draw_at : ℕ → ℕ → List ℤ → List ℕ → ℕ → ℕ
draw_at x r items weights i = draw (hash_at x r items i % 2 ^ 16) (slice_index weights i)

-- the first place of the least draw
unfoldable pub straw2_place : ℕ → ℕ → List ℤ → List ℕ → ℕ
straw2_place x r items weights = unwrap_or (first_least (draw_at x r items weights) (length items)) 0

-- the item that a bucket chooses, unless it is empty
unfoldable pub choice : ℕ → ℕ → Bucket → Option ℤ
choice x r b = elim b.alg [
  | Uniform ↦ slice_get b.items (uniform_place x r (word_of b.id) (length b.items))
  | Weighed ↦ slice_get b.items (list_place x r (word_of b.id) b.items b.weights)
  | Straw2 ↦ slice_get b.items (straw2_place x r b.items b.weights)
]

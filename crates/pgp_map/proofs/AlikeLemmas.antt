-- What two tables say of all keys, by what they say of those that they have.
use Rattle.std.proofs.Common.{◌&&◌, refl, ap, [], ◌∷◌, map, Option, Some, None, is_some, false, nat_eq, nat_lt, pred, ◌≡◌, ℕ, ◌<◌, ◌≤◌, List, inl, inr, arith, length, Bool, true, MatchBool, Decides, All, Contains, HoldsAt, get_or, sym, ◌∙◌}
use Rattle.std.specs.Cmp.{booleans_Decides, signed_Decides, unsigned_Decides}
use Rattle.std.specs.List.{AllWithin}
use Rattle.std.specs.Set.{is_member}
use Rattle.std.proofs.Math.Bool.{beq}
use Rattle.std.proofs.Math.Nat.{suc-ne-zero}
use Rattle.std.proofs.lemmas.Bool.{MatchBool-at_true, and_parts, cases_lt, true≢false}
use Rattle.std.proofs.lemmas.Iterator.Search.{true_from_All}
use Rattle.std.proofs.lemmas.List.Elements.{All-contains, All-from_all_within, AllWithin-from_all}
use Rattle.std.proofs.lemmas.List.FromFn.{fill_by_all}
use Rattle.std.proofs.lemmas.Map.Made.{is_member-Decides}
use Rattle.std.proofs.lemmas.Bool.Decides.{Decides-ltb}
use Rattle.std.proofs.lemmas.Option.{same_Some}
use Rattle.std.specs.Cmp.Lexicographic.{bytes_decides, pointwise, pointwise_decides}
use Rattle.std.specs.HashMap as hash
use Rattle.std.specs.List.{range_with_len}
use Rattle.std.specs.Option.{option_eq, option_map_or}
use Rattle.std.specs.Ordering.{int_eq}
use Rattle.pgp_crush.specs.Bucket.{Bucket, bucket_of}
use Rattle.pgp_ids.specs.Pool.{is_kind_by_place}
use Rattle.pgp_ids.specs.declared.bucket.BucketAlg.{BucketAlg}
use Rattle.pgp_ids.specs.declared.bucket.BucketAlg.TheVariants.{Uniform, List as ListAlg, Straw2}
use Rattle.pgp_ids.specs.declared.bucket.BucketSpec.{BucketSpec}
use Rattle.pgp_ids.specs.declared.part.Part.{Part}
use Rattle.pgp_ids.specs.declared.pool.PoolKind.{PoolKind}
use Rattle.pgp_ids.specs.declared.pool.PoolKind.TheVariants.{Replicated, Erasure, Grouped}
use Rattle.pgp_ids.specs.declared.pool.PoolSpec.{PoolSpec}
use Rattle.pgp_map.proofs.Same.{is_same_alg, is_same_bucket, is_same_kind, is_same_part, is_same_pool}
use Rattle.pgp_ids.specs.declared.pg_id.PgId.{PgId}
use Rattle.pgp_ids.specs.declared.incremental.Incremental.{Incremental}
use Rattle.pgp_lists.proofs.Members.{contains-map}
use Rattle.pgp_lists.proofs.Ranges.{range-contains}
use Rattle.pgp_map.specs.declared.map.OsdMap.{OsdMap}
use Rattle.pgp_map.specs.Held.{held_groups, held_pool}
use Rattle.pgp_map.specs.MapOf.{IsMapOf}
use Rattle.pgp_map.specs.Pools.{has_group, pool}
use Rattle.pgp_tables.proofs.Common.{same_group}
use Rattle.pgp_tables.specs.TempTable.{is_same_group}

-- what a test says that each key of a table passes where P is true of it
pub each-key : {K : Type 0} {eq : K → K → Bool} (same : (a b : K) → Decides (eq a b) (a ≡ b)) (P : K → Type 0) (has : K → Bool) (given keys : List K) (result : Bool) → given ≡ keys
    → ((q : K) → has q ≡ is_member eq given q) → All (λ q. has q ≡ true) keys
    → MatchBool result (AllWithin P keys 0 (length keys)) ((k : ℕ) × (k < length keys) × HoldsAt (λ q. P q → ⊥) keys k)
    → Decides result ((q : K) → has q ≡ true → P q)
each-key {eq = eq} same P has given keys result are is own ran = (
  λ passed q in'. All-contains P keys q (All-from_all_within P keys (MatchBool-at_true _ _ passed ran)) ((is_member-Decides same keys q).0 ((λ i. is_member eq (sym are i) q) ∙ sym (is q) ∙ in')),
  λ all. true_from_All P (λ q. P q → ⊥) result keys (λ q p no. no p) ran
      (All-from_all_within P keys (λ k d from below. all (get_or keys k d) (AllWithin-from_all (λ q. has q ≡ true) keys own k d from below))),
)

pub groups_Decides : (a b : PgId) → Decides (is_same_group a b) (a ≡ b)
groups_Decides a b = (same_group a b, λ same. (λ i. is_same_group a (sym same i)) ∙ (λ i. (unsigned_Decides a.pool a.pool).1 refl i && (unsigned_Decides a.pg a.pg).1 refl i))

-- ---- the table of weights

-- the slices that the tables are read as are equal exactly where the tables say the same of each device
pub weights_Decides : (xs ys : List ℕ) (weight other : ℕ → ℕ) → length xs ≡ 4096 → length ys ≡ 4096
    → ((q : ℕ) → q < 4096 → get_or xs q 65536 ≡ weight q) → ((q : ℕ) → q < 4096 → get_or ys q 65536 ≡ other q)
    → ((q : ℕ) → 4096 ≤ q → other q ≡ weight q) → (result : Bool) → Decides result (xs ≡ ys) → Decides result ((q : ℕ) → other q ≡ weight q)
weights_Decides xs ys weight other long long' is is' beyond result equal = (
  λ same q. elim (cases_lt q 4096) [
    | inl below ↦ sym (is' q below) ∙ (λ i. get_or (sym (equal.0 same) i) q 65536) ∙ is q below
    | inr above ↦ beyond q (omega (arith, above))
  ],
  λ all. equal.1 (fill_by_all weight xs 4096 65536 long is ∙ sym (fill_by_all weight ys 4096 65536 long' (λ q below. is' q below ∙ all q))),
)

-- ---- values that `==` compares part by part

-- where `==` decides whether two values are the same, it does so for values that may be there
pub options_Decide : {A : Type 0} {E : A → A → Bool} → ((a b : A) → Decides (E a b) (a ≡ b)) → (p q : Option A) → Decides (option_eq E p q) (p ≡ q)
options_Decide same None None = (λ passed. refl, λ equal. refl)
options_Decide same None (Some b) = (λ passed. absurd (true≢false (sym passed)), λ equal. absurd (true≢false (ap is_some (sym equal))))
options_Decide same (Some a) None = (λ passed. absurd (true≢false (sym passed)), λ equal. absurd (true≢false (ap is_some equal)))
options_Decide same (Some a) (Some b) = (λ passed. ap Some ((same a b).0 passed), λ equal. (same a b).1 (same_Some a b equal))

pub both_Decide : {P Q : Type 0} (r s : Bool) → Decides r P → Decides s Q → Decides (r && s) (P × Q)
both_Decide r s p q = (λ passed. (p.0 (and_parts r s passed).0, q.0 (and_parts r s passed).1), λ hold. λ i. p.1 hold.0 i && q.1 hold.1 i)

part_Decides : (a b : Part) → Decides (is_same_part a b) (a ≡ b)
part_Decides a b =
    let two = both_Decide (pointwise nat_eq a.slots b.slots) (nat_eq a.least b.least) (bytes_decides a.slots b.slots) (unsigned_Decides a.least b.least) in
    let all = both_Decide (pointwise nat_eq a.slots b.slots && nat_eq a.least b.least) (beq a.twice b.twice) two (booleans_Decides a.twice b.twice) in (
      λ passed. λ i. record { slots = (all.0 passed).0.0 i; least = (all.0 passed).0.1 i; twice = (all.0 passed).1 i },
      λ equal. all.1 ((ap (λ (p : Part). p.slots) equal, ap (λ (p : Part). p.least) equal), ap (λ (p : Part). p.twice) equal),
    )

is_erasure : PoolKind → Bool
is_erasure Replicated = false
is_erasure (Erasure k) = true
is_erasure (Grouped parts) = false

k_of : PoolKind → ℕ
k_of Replicated = 0
k_of (Erasure k) = k
k_of (Grouped parts) = 0

parts_of : PoolKind → List (Option Part)
parts_of Replicated = []
parts_of (Erasure k) = []
parts_of (Grouped parts) = parts

kind_Decides : (a b : PoolKind) → Decides (is_same_kind a b) (a ≡ b)
unfolding is_erasure k_of parts_of
kind_Decides Replicated Replicated = (λ passed. refl, λ equal. refl)
kind_Decides Replicated (Erasure l) = (λ passed. absurd (true≢false (sym passed)), λ equal. absurd (true≢false (sym (ap is_kind_by_place equal))))
kind_Decides Replicated (Grouped parts) = (λ passed. absurd (true≢false (sym passed)), λ equal. absurd (true≢false (sym (ap is_kind_by_place equal))))
kind_Decides (Erasure k) Replicated = (λ passed. absurd (true≢false (sym passed)), λ equal. absurd (true≢false (ap is_kind_by_place equal)))
kind_Decides (Erasure k) (Erasure l) = (λ passed. ap Erasure ((unsigned_Decides k l).0 passed), λ equal. (unsigned_Decides k l).1 (ap k_of equal))
kind_Decides (Erasure k) (Grouped parts) = (λ passed. absurd (true≢false (sym passed)), λ equal. absurd (true≢false (ap is_erasure equal)))
kind_Decides (Grouped parts) Replicated = (λ passed. absurd (true≢false (sym passed)), λ equal. absurd (true≢false (ap is_kind_by_place equal)))
kind_Decides (Grouped parts) (Erasure l) = (λ passed. absurd (true≢false (sym passed)), λ equal. absurd (true≢false (sym (ap is_erasure equal))))
kind_Decides (Grouped parts) (Grouped others) =
    let same = pointwise_decides (options_Decide part_Decides) parts others in
    (λ passed. ap Grouped (same.0 passed), λ equal. same.1 (ap parts_of equal))

pub pool_Decides : (a b : PoolSpec) → Decides (is_same_pool a b) (a ≡ b)
pool_Decides a b =
    let two = both_Decide (nat_eq a.id b.id) (nat_eq a.pg_num b.pg_num) (unsigned_Decides a.id b.id) (unsigned_Decides a.pg_num b.pg_num) in
    let three = both_Decide (nat_eq a.id b.id && nat_eq a.pg_num b.pg_num) (is_same_kind a.kind b.kind) two (kind_Decides a.kind b.kind) in
    let four = both_Decide (nat_eq a.id b.id && nat_eq a.pg_num b.pg_num && is_same_kind a.kind b.kind) (nat_eq a.size b.size) three (unsigned_Decides a.size b.size) in
    let five = both_Decide (nat_eq a.id b.id && nat_eq a.pg_num b.pg_num && is_same_kind a.kind b.kind && nat_eq a.size b.size) (nat_eq a.min_size b.min_size)
    four (unsigned_Decides a.min_size b.min_size) in
    let all = both_Decide (nat_eq a.id b.id && nat_eq a.pg_num b.pg_num && is_same_kind a.kind b.kind && nat_eq a.size b.size && nat_eq a.min_size b.min_size)
    (nat_eq a.leaf b.leaf) five (unsigned_Decides a.leaf b.leaf) in (
      λ passed. let h = all.0 passed in λ i. record {
        id = h.0.0.0.0.0 i;
        pg_num = h.0.0.0.0.1 i;
        kind = h.0.0.0.1 i;
        size = h.0.0.1 i;
        min_size = h.0.1 i;
        leaf = h.1 i;
      },
      λ equal. all.1 (
        (
          (
            ((ap (λ (p : PoolSpec). p.id) equal, ap (λ (p : PoolSpec). p.pg_num) equal), ap (λ (p : PoolSpec). p.kind) equal),
            ap (λ (p : PoolSpec). p.size) equal,
          ),
          ap (λ (p : PoolSpec). p.min_size) equal,
        ),
        ap (λ (p : PoolSpec). p.leaf) equal,
      ),
    )

-- ---- trees

alg_number : BucketAlg → ℕ
alg_number Uniform = 0
alg_number ListAlg = 1
alg_number Straw2 = 2

alg_Decides : (a b : BucketAlg) → Decides (is_same_alg a b) (a ≡ b)
unfolding alg_number
alg_Decides Uniform Uniform = (λ passed. refl, λ equal. refl)
alg_Decides Uniform ListAlg = (λ passed. absurd (true≢false (sym passed)), λ equal. absurd (suc-ne-zero 0 (sym (ap alg_number equal))))
alg_Decides Uniform Straw2 = (λ passed. absurd (true≢false (sym passed)), λ equal. absurd (suc-ne-zero 1 (sym (ap alg_number equal))))
alg_Decides ListAlg Uniform = (λ passed. absurd (true≢false (sym passed)), λ equal. absurd (suc-ne-zero 0 (ap alg_number equal)))
alg_Decides ListAlg ListAlg = (λ passed. refl, λ equal. refl)
alg_Decides ListAlg Straw2 = (λ passed. absurd (true≢false (sym passed)), λ equal. absurd (suc-ne-zero 0 (sym (ap pred (ap alg_number equal)))))
alg_Decides Straw2 Uniform = (λ passed. absurd (true≢false (sym passed)), λ equal. absurd (suc-ne-zero 1 (ap alg_number equal)))
alg_Decides Straw2 ListAlg = (λ passed. absurd (true≢false (sym passed)), λ equal. absurd (suc-ne-zero 0 (ap pred (ap alg_number equal))))
alg_Decides Straw2 Straw2 = (λ passed. refl, λ equal. refl)

-- a bucket of the program is told by its plain data
bucket_Decides : (a b : BucketSpec) → Decides (is_same_bucket a b) (bucket_of a ≡ bucket_of b)
bucket_Decides a b =
    let two = both_Decide (int_eq a.id b.id) (nat_eq a.kind b.kind) (signed_Decides a.id b.id) (unsigned_Decides a.kind b.kind) in
    let three = both_Decide (int_eq a.id b.id && nat_eq a.kind b.kind) (is_same_alg a.alg b.alg) two (alg_Decides a.alg b.alg) in
    let four = both_Decide (int_eq a.id b.id && nat_eq a.kind b.kind && is_same_alg a.alg b.alg) (pointwise int_eq a.items b.items) three
    (pointwise_decides signed_Decides a.items b.items) in
    let all = both_Decide (int_eq a.id b.id && nat_eq a.kind b.kind && is_same_alg a.alg b.alg && pointwise int_eq a.items b.items) (pointwise nat_eq a.weights b.weights)
    four (bytes_decides a.weights b.weights) in (
      λ passed. let h = all.0 passed in λ i. record { id = h.0.0.0.0 i; kind = h.0.0.0.1 i; alg = h.0.0.1 i; items = h.0.1 i; weights = h.1 i },
      λ equal. all.1 (
        (
          ((ap (λ (p : Bucket). p.id) equal, ap (λ (p : Bucket). p.kind) equal), ap (λ (p : Bucket). p.alg) equal),
          ap (λ (p : Bucket). p.items) equal,
        ),
        ap (λ (p : Bucket). p.weights) equal,
      ),
    )

first_or : {A : Type 0} → A → List A → A
first_or x [] = x
first_or x (y ∷ ys) = y

rest_of : {A : Type 0} → List A → List A
rest_of [] = []
rest_of (y ∷ ys) = ys

buckets_Decide : (xs ys : List BucketSpec) → Decides (pointwise is_same_bucket xs ys) (map bucket_of xs ≡ map bucket_of ys)
unfolding first_or rest_of
buckets_Decide [] [] = (λ passed. refl, λ equal. refl)
buckets_Decide [] (y ∷ ys) = (λ passed. absurd (true≢false (sym passed)), λ equal. absurd (suc-ne-zero _ (sym (ap length equal))))
buckets_Decide (x ∷ xs) [] = (λ passed. absurd (true≢false (sym passed)), λ equal. absurd (suc-ne-zero _ (ap length equal)))
buckets_Decide (x ∷ xs) (y ∷ ys) =
    let both = both_Decide (is_same_bucket x y) (pointwise is_same_bucket xs ys) (bucket_Decides x y) (buckets_Decide xs ys) in
    (λ passed. λ i. (both.0 passed).0 i ∷ (both.0 passed).1 i, λ equal. both.1 (ap (first_or (bucket_of x)) equal, ap rest_of equal))

pub trees_Decide : (xs ys : List BucketSpec) (tree other : Option (List Bucket)) → tree ≡ Some (map bucket_of xs) → other ≡ Some (map bucket_of ys)
    → {E : BucketSpec → BucketSpec → Bool} (r : Bool) → r ≡ pointwise E xs ys → ((a b : BucketSpec) → E a b ≡ is_same_bucket a b) → Decides r (other ≡ tree)
trees_Decide xs ys tree other is is' {E = E} r answers same =
    let answered : r ≡ pointwise is_same_bucket xs ys = answers ∙ (λ i. pointwise (λ a b. same a b i) xs ys) in (
      λ passed. is' ∙ ap Some (sym ((buckets_Decide xs ys).0 (sym answered ∙ passed))) ∙ sym is,
      λ equal. answered ∙ (buckets_Decide xs ys).1 (same_Some (map bucket_of xs) (map bucket_of ys) (sym is ∙ sym equal ∙ is')),
    )

-- ---- groups

some : (made : Option PoolSpec) (seed : ℕ) → option_map_or (λ made. nat_lt seed made.pg_num) made false ≡ true → is_some made ≡ true
some None seed has = absurd (true≢false (sym has))
some (Some made) seed has = refl

below : (made : Option PoolSpec) (seed : ℕ) → option_map_or (λ made. nat_lt seed made.pg_num) made false ≡ true → seed < option_map_or (λ made. made.pg_num) made 0
below None seed has = absurd (true≢false (sym has))
below (Some made) seed has = (Decides-ltb seed made.pg_num).0 has

pub pool-there : (incs : List Incremental) (pg : PgId) → has_group incs pg ≡ true → is_some (pool incs pg.pool) ≡ true
pool-there incs pg has = some (pool incs pg.pool) pg.pg has

pub group-held : (map : OsdMap) (incs : List Incremental) → IsMapOf incs map → (pg : PgId) → has_group incs pg ≡ true → Contains (held_groups map pg.pool) pg
unfolding held_pool
group-held map incs is pg has =
    let n = option_map_or (λ (made : PoolSpec). made.pg_num) (hash.get nat_eq map.pools pg.pool) 0 in
    contains-map {Y = PgId} (λ seed. record { pool = pg.pool; pg = seed }) (range_with_len 0 n) pg.pg
    (range-contains n pg.pg (below (hash.get nat_eq map.pools pg.pool) pg.pg ((λ i. option_map_or (λ made. nat_lt pg.pg made.pg_num) (is.pools_are pg.pool i) false) ∙ has)))

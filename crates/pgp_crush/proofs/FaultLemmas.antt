-- The tests of a list of buckets.
use Rattle.std.proofs.Common.{◌≡◌, ◌<◌, ℕ, ◌+◌, zero, suc, ℤ, List, [], ◌∷◌, length, map, get_or, length-append, Bool, false, cond, ◌||◌, nat_lt, inl, inr, refl, arith, ap, sym, ◌∙◌, add-one, None}
use Rattle.std.specs.List.{list_any, find, filter, count_by}
use Rattle.std.specs.Ordering.{int_eq}
use Rattle.std.proofs.lemmas.List.Folds.{list_any-append}
use Rattle.std.proofs.lemmas.List.Sums.{sum_by-cons}
use Rattle.std.proofs.lemmas.Bool.{cases_Bool, cases_lt}
use Rattle.std.proofs.lemmas.Bool.Decides.{nat_tests}
use Rattle.pgp_ids.specs.declared.bucket.BucketSpec.{BucketSpec}
use Rattle.pgp_crush.specs.Bucket.{Bucket, bucket_of, is_held}
use Rattle.pgp_crush.specs.TreeFault.{items_of, below_levels}

-- an item is held exactly if it is an item of some bucket
pub is_held_is : (tree : List Bucket) (item : ℤ) → list_any (int_eq item) (items_of tree) ≡ is_held tree item
is_held_is [] item = refl
is_held_is (b ∷ tree) item = list_any-append (int_eq item) b.items (items_of tree) ∙ ap (λ (t : Bool). list_any (int_eq item) b.items || t) (is_held_is tree item)

-- where none passes the count is 0
pub none-counted : {X : Type 0} (test : X → Bool) (xs : List X) → find test xs ≡ None → count_by test xs ≡ 0
none-counted test [] h = refl
none-counted test (x ∷ xs) h = grind (arith, none-counted test xs, sum_by-cons (λ x. cond (test x) 1 0) x xs)

pub any-filter : {X : Type 0} (test : X → Bool) (xs : List X) → nat_lt 0 (length (filter test xs)) ≡ list_any test xs
any-filter test [] = refl
any-filter test (x ∷ xs) = elim (cases_Bool (test x)) [ inl passes ↦ rw passes (grind (arith, nat_tests)) | inr fails ↦ rw fails (any-filter test xs) ]

-- the next level, by a test that tells which ids the level before holds
pub below_levels-more : (tree : List Bucket) (k : ℕ) (held : ℤ → Bool) → ((q : ℤ) → held q ≡ is_held (below_levels tree k) q) →
    filter (λ b. held b.id) tree ≡ below_levels tree (k + 1)
unfolding below_levels
below_levels-more tree k held h = (λ i. filter (λ b. h b.id i) tree) ∙ sym (ap (below_levels tree) (add-one k))

-- no bucket stands below what holds nothing

none-held : (above tree : List Bucket) → items_of above ≡ [] → filter (λ b. is_held above b.id) tree ≡ []
none-held above [] h = refl
none-held above (b ∷ tree) h =
    let none : is_held above b.id ≡ false = sym (is_held_is above b.id) ∙ ap (list_any (int_eq b.id)) h in
    rw none (none-held above tree h)

pub below_levels-none : (tree : List Bucket) (k m : ℕ) → items_of (below_levels tree k) ≡ [] → k < m → below_levels tree m ≡ []
unfolding below_levels
below_levels-none tree k zero none low = absurd (omega arith)
below_levels-none tree k (suc m) none low = none-held (below_levels tree m) tree (elim (cases_lt k m) [
  | inl before ↦ ap items_of (below_levels-none tree k m none before)
  | inr last ↦ let same : m ≡ k = omega arith in rw same none
])

-- where the bucket at a place has an item, the list has one
pub has_item : (buckets : List BucketSpec) (k : ℕ) (b : BucketSpec) → k < length buckets → b ≡ get_or buckets k b → 0 < length b.items → 0 < length (items_of (map bucket_of buckets))
has_item [] k b within item some = absurd (omega arith)
has_item (x ∷ buckets) zero b within item some =
    let same : 0 < length x.items = rw (← item) some in
    omega (arith, length-append x.items (items_of (map bucket_of buckets)), same)
has_item (x ∷ buckets) (suc k) b within item some =
    omega (arith, length-append x.items (items_of (map bucket_of buckets)), has_item buckets k b (omega arith) item some)

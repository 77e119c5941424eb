-- What buckets choose, place by place.
use Rattle.std.proofs.Common.{◌≡◌, ◌≢◌, ◌%◌, ℕ, cond, zero, suc, ◌+◌, ◌-◌, ◌^◌, ◌<◌, ◌≤◌, Bool, nat_eq, false, ℤ, pos, List, ◌∷◌, length, slice_get, slice_index, slice_index_or, slice_set, inl, inr, refl, arith, ap, ◌∙◌, add-one, Some, None}
use Rattle.std.proofs.Math.Nat.{div-le_self}
use Rattle.std.proofs.lemmas.Bool.{cases_Bool, cases_lt}
use Rattle.std.proofs.lemmas.Grind.{common_steps}
use Rattle.std.proofs.lemmas.Bool.Decides.{nat_tests}
use Rattle.std.proofs.lemmas.List.{get_or_past, get_or-set_same, get_or-set_other}
use Rattle.std.proofs.lemmas.Option.{slice_get-get_or, slice_get_past}
use Rattle.std.specs.List.{All}
use Rattle.std.specs.Option.{unwrap_or}
use Rattle.pgp_ids.specs.declared.bucket.BucketAlg.TheVariants.{Uniform, List as Weighed, Straw2}
use Rattle.pgp_crush.specs.Bucket.{Bucket}
use Rattle.pgp_crush.specs.Least.{greatest_below}
use Rattle.pgp_crush.specs.Chosen.{uniform_place_within, list_place_within, straw2_place_within}
use Rattle.pgp_crush.specs.Choice.{word_of, place_before, traced_back, uniform_place, weight_passes, list_place, draw, hash_at, draw_at, straw2_place, choice}
use Rattle.pgp_crush.proofs.LeastLemmas.{first_least-kept}
use Rattle.pgp_crush.specs.Logarithm.{logarithm}

-- ---- uniform buckets

-- the last exchange is traced back first
pub traced_back-more : (x id n p q place : ℕ) → p ≡ q + 1 → traced_back x id n p place ≡ traced_back x id n q (place_before x id n q place)
unfolding traced_back
traced_back-more x id n p q place e = ap (λ (k : ℕ). traced_back x id n k place) (e ∙ add-one q)

pub traced_back-none : (x id n p place : ℕ) → p ≡ 0 → traced_back x id n p place ≡ place
unfolding traced_back
traced_back-none x id n p place e = ap (λ (k : ℕ). traced_back x id n k place) e

pub ruleset shuffle_steps = (traced_back-more, traced_back-none)

-- ---- list buckets

-- the last of the first i places whose item passes, else the first
unfoldable pub place_below : ℕ → ℕ → ℕ → List ℤ → List ℕ → ℕ → ℕ
place_below x r id items weights i = unwrap_or (greatest_below (weight_passes x r id items weights) i) 0

pub list_place_is : (x r id : ℕ) (items : List ℤ) (weights : List ℕ) → list_place x r id items weights ≡ place_below x r id items weights (length items)
unfolding list_place place_below
list_place_is x r id items weights = refl

pub place_below-none : (x r id : ℕ) (items : List ℤ) (weights : List ℕ) (i : ℕ) → i ≡ 0 → place_below x r id items weights i ≡ 0
unfolding greatest_below place_below
place_below-none x r id items weights i e = rw e

-- one place, and those before it if its item doesn't pass
pub place_below-more : (x r id : ℕ) (items : List ℤ) (weights : List ℕ) (i : ℕ) → 0 < i →
    place_below x r id items weights i ≡ cond (weight_passes x r id items weights (i - 1)) (i - 1) (place_below x r id items weights (i - 1))
unfolding greatest_below place_below
place_below-more x r id items weights i some =
    let last : i ≡ suc (i - 1) = omega arith in
    ap (place_below x r id items weights) last ∙ elim (cases_Bool (weight_passes x r id items weights (i - 1))) [ inl passes ↦ rw passes | inr fails ↦ rw fails ]

pub ruleset place_steps = (common_steps, list_place_is, place_below-none)

-- ---- straw2 buckets

-- no item draws more than one of no weight
pub draw_within : (hash weight : ℕ) → draw hash weight ≤ 2 ^ 63
draw_within hash weight = elim (cases_Bool (nat_eq weight 0)) [
  | inl none ↦ rw none (omega arith)
  | inr some ↦ rw some (omega (arith, div-le_self (2 ^ 48 - logarithm hash) weight))
]

-- a changed weight moves only what leaves its item or comes to it
pub weight_moves_its_item : (x r : ℕ) (items : List ℤ) (weights : List ℕ) (i weight : ℕ) → 0 < length items → straw2_place x r items weights ≢ i
    → straw2_place x r items (slice_set weights i weight) ≢ i → straw2_place x r items (slice_set weights i weight) ≡ straw2_place x r items weights
unfolding straw2_place
weight_moves_its_item x r items weights i weight some before after =
    first_least-kept (draw_at x r items weights) (draw_at x r items (slice_set weights i weight)) (2 ^ 63) (length items) i some
    (λ j. draw_within _ _) (λ j. draw_within _ _)
    (λ j other. ap (λ w. draw (hash_at x r items j % 2 ^ 16) w) (get_or-set_other weights i j weight 0 other)) before after

-- one place more of a list is as f says
pub filled : (f : ℕ → ℕ) (xs : List ℕ) (k v : ℕ) → k < length xs → v ≡ f k → ((j : ℕ) → j < k → slice_index xs j ≡ f j)
    → (j : ℕ) → j < k + 1 → slice_index (slice_set xs k v) j ≡ f j
filled f xs k v within is said j below = elim (cases_lt j k) [
  | inl earlier ↦ get_or-set_other xs k j v 0 (omega arith) ∙ said j earlier
  | inr last ↦ (let same : j ≡ k = omega arith in rw same (get_or-set_same xs k v 0 within ∙ is))
]

-- ---- a bucket that is empty, and one that isn't

pub choice-empty : (x r : ℕ) (b : Bucket) → length b.items ≡ 0 → choice x r b ≡ None
unfolding choice
choice-empty x r b none = grind (arith, slice_get_past)

pub choice-uniform : (x r : ℕ) (b : Bucket) → b.alg ≡ Uniform → 0 < length b.items →
    choice x r b ≡ Some (slice_index_or b.items (uniform_place x r (word_of b.id) (length b.items)) (pos 0))
unfolding choice
choice-uniform x r b alg some = rw alg (slice_get-get_or b.items _ (pos 0) (uniform_place_within x r (word_of b.id) (length b.items) some))

pub choice-list : (x r : ℕ) (b : Bucket) → b.alg ≡ Weighed → 0 < length b.items →
    choice x r b ≡ Some (slice_index_or b.items (list_place x r (word_of b.id) b.items b.weights) (pos 0))
unfolding choice
choice-list x r b alg some = rw alg (slice_get-get_or b.items _ (pos 0) (list_place_within x r (word_of b.id) b.items b.weights some))

pub choice-straw2 : (x r : ℕ) (b : Bucket) → b.alg ≡ Straw2 → 0 < length b.items →
    choice x r b ≡ Some (slice_index_or b.items (straw2_place x r b.items b.weights) (pos 0))
unfolding choice
choice-straw2 x r b alg some = rw alg (slice_get-get_or b.items _ (pos 0) (straw2_place_within x r b.items b.weights some))

-- ---- a list bucket of whose weights all but the first are 0

first_passes : (test : ℕ → Bool) → ((k : ℕ) → test (suc k) ≡ false) → (n : ℕ) → unwrap_or (greatest_below test n) 0 ≡ 0
unfolding greatest_below
first_passes test later zero = refl
first_passes test later (suc zero) = elim (cases_Bool (test 0)) [ inl passes ↦ rw passes refl | inr fails ↦ rw fails refl ]
first_passes test later (suc (suc n)) = rw (later n) (first_passes test later (suc n))

no_weight : (weights : List ℕ) → All (λ w. w ≡ 0) weights → (k : ℕ) → slice_index weights k ≡ 0
no_weight weights none k = elim (cases_lt k (length weights)) [ inl within ↦ none k 0 within | inr past ↦ get_or_past weights k 0 past ]

pub first_of_all_weight : (x r : ℕ) (b : Bucket) (item : ℤ) (items : List ℤ) (weight : ℕ) (weights : List ℕ) → b.alg ≡ Weighed → b.items ≡ item ∷ items →
    b.weights ≡ weight ∷ weights → All (λ w. w ≡ 0) weights → choice x r b ≡ Some item
unfolding choice list_place
first_of_all_weight x r b item items weight weights alg items_are weights_are none =
    rw alg ((λ j. slice_get (items_are j) (list_place x r (word_of b.id) (items_are j) (weights_are j)))
    ∙ ap (slice_get (item ∷ items)) (first_passes (weight_passes x r (word_of b.id) (item ∷ items) (weight ∷ weights)) fails (length (item ∷ items))))
  where
    fails : (k : ℕ) → weight_passes x r (word_of b.id) (item ∷ items) (weight ∷ weights) (suc k) ≡ false
    fails k = let none : slice_index weights k ≡ 0 = no_weight weights none k in grind (arith, nat_tests)

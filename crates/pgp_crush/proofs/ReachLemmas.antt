-- Where the ways down of a tree without fault lead.
use Rattle.std.proofs.Common.{◌≡◌, ◌⊎◌, ℕ, ◌+◌, ◌<◌, zero, suc, true, false, not, ℤ, List, ◌∷◌, length, Contains, nat_lt, slice_get, refl, arith, ap, sym, ◌∙◌, subst, inl, inr, Option, Some, None}
use Rattle.std.specs.List.{list_any}
use Rattle.std.specs.Ordering.{int_eq}
use Rattle.std.proofs.lemmas.Bool.{not-false}
use Rattle.std.proofs.lemmas.Int.{ints}
use Rattle.std.proofs.lemmas.Bool.Decides.{nat_tests}
use Rattle.std.proofs.lemmas.Option.{slice_get_within, get_or_from_slice_get}
use Rattle.pgp_lists.proofs.Members.{Contains-nil, Contains-cases, contains-filter, contains-flat_map, contains-any, none-contains, find-some}
use Rattle.pgp_crush.specs.declared.descent.Rank.{Rank}
use Rattle.pgp_crush.specs.declared.descent.Step.{Step}
use Rattle.pgp_crush.specs.Bucket.{Bucket, bucket_at, is_held}
use Rattle.pgp_crush.specs.Choice.{word_of, uniform_place, list_place, straw2_place, choice}
use Rattle.pgp_crush.specs.Descent.{rank_at, path, step_of}
use Rattle.pgp_crush.specs.TreeFault.{items_of, is_known, has_unknown, is_too_deep, below_levels, tree_fault, fault_below_root}
use Rattle.pgp_crush.proofs.DescentLemmas.{path-none, bucket_at-id}

-- an option holds nothing or something
cases_Option : {X : Type 0} (o : Option X) → (o ≡ None) ⊎ ((x : X) × (o ≡ Some x))
cases_Option None = inl refl
cases_Option (Some x) = inr (x, refl)

-- what a bucket chooses is one of its items
got : (items : List ℤ) (k : ℕ) (item : ℤ) → slice_get items k ≡ Some item → Contains items item
got items k item is = (k, slice_get_within items k item is, get_or_from_slice_get items k item item is)

choice-in : (x r : ℕ) (b : Bucket) (item : ℤ) → choice x r b ≡ Some item → Contains b.items item
unfolding choice
choice-in x r b item h =
    let at : (slice_get b.items (uniform_place x r (word_of b.id) (length b.items)) ≡ Some item)
    ⊎ ((slice_get b.items (list_place x r (word_of b.id) b.items b.weights) ≡ Some item) ⊎ (slice_get b.items (straw2_place x r b.items b.weights) ≡ Some item)) = grind arith in
    elim at [ inl is ↦ got b.items _ item is | inr (inl is) ↦ got b.items _ item is | inr (inr is) ↦ got b.items _ item is ]

-- ---- every item is known

item-known : (tree : List Bucket) (b : Bucket) (item : ℤ) → has_unknown tree ≡ false → Contains tree b → Contains b.items item → is_known tree item ≡ true
item-known tree b item known here on =
    not-false _ (none-contains (λ i. not (is_known tree i)) (items_of tree) item known (contains-flat_map (λ b. b.items) tree b item here on))

path-known : (tree : List Bucket) (x : ℕ) (rank : Rank) (levels : ℕ) (from : Option Bucket) (s : Step) → has_unknown tree ≡ false → ((b : Bucket) → from ≡ Some b → Contains tree b)
    → Contains (path tree x rank levels from) s → is_known tree s.item ≡ true
unfolding path
path-known tree x rank zero from s known here on = absurd (Contains-nil s on)
path-known tree x rank (suc levels) None s known here on = absurd (Contains-nil s on)
path-known tree x rank (suc levels) (Some b) s known here on = elim (cases_Option (choice x (rank_at rank b) b)) [
  | inl none ↦ absurd (Contains-nil s (rw (path, none) at on))
  | inr some ↦
      elim (Contains-cases (step_of some.0 (rank_at rank b)) (path tree x rank levels (bucket_at tree some.0)) s (rw (path, some.1) at on)) [
        | inl first ↦ ap (λ (t : Step). is_known tree t.item) (sym first) ∙ item-known tree b some.0 known (here b refl) (choice-in x (rank_at rank b) b some.0 some.1)
        | inr later ↦ path-known tree x rank levels (bucket_at tree some.0) s known (λ next is. (find-some (λ b. int_eq b.id some.0) tree next is).0) later
      ]
]

-- ---- ten levels are enough

-- a bucket that a bucket below some levels holds is below one level more
in-below : (tree : List Bucket) (k : ℕ) (b next : Bucket) → Contains (below_levels tree k) b → Contains b.items next.id → Contains tree next →
    Contains (below_levels tree (suc k)) next
unfolding below_levels
in-below tree k b next here on there =
    contains-filter (λ b. is_held (below_levels tree k) b.id) tree next there
    (contains-any (λ b. list_any (int_eq next.id) b.items) (below_levels tree k) b here (contains-any (int_eq next.id) b.items next.id on (grind (arith, ints))))

none-in : (tree : List Bucket) (b : Bucket) → nat_lt 0 (length tree) ≡ false → Contains tree b → ⊥
none-in tree b none on = let within : on.0 < length tree = on.1 in grind (arith, nat_tests)

path-ends : (tree : List Bucket) (x : ℕ) (rank : Rank) (n more k all : ℕ) (from : Option Bucket) → is_too_deep tree ≡ false → n + k ≡ 10 → all ≡ n + more →
    ((b : Bucket) → from ≡ Some b → Contains (below_levels tree k) b) → path tree x rank all from ≡ path tree x rank n from
unfolding path
path-ends tree x rank n more k all None shallow e sum here = path-none tree x rank all ∙ sym (path-none tree x rank n)
path-ends tree x rank zero more k all (Some b) shallow e sum here =
    let level : k ≡ 10 = omega arith in
    absurd (none-in (below_levels tree 10) b shallow (subst (λ (l : ℕ). Contains (below_levels tree l) b) level (here b refl)))
path-ends tree x rank (suc n) more k all (Some b) shallow e sum here =
    let left : all ≡ suc (n + more) = omega arith in
    rw left (elim (cases_Option (choice x (rank_at rank b) b)) [
      | inl none ↦ rw (path, none)
      | inr some ↦
          let on = choice-in x (rank_at rank b) b some.0 some.1 in
          rw (path, some.1) (ap (λ (p : List Step). step_of some.0 (rank_at rank b) ∷ p)
          (path-ends tree x rank n more (suc k) (n + more) (bucket_at tree some.0) shallow (omega arith) refl (λ next is.
          in-below tree k b next (here b refl) (rw (← bucket_at-id tree some.0 next is) at on) (find-some (λ b. int_eq b.id some.0) tree next is).0)))
    ])

-- ---- of a tree without fault

pub ways_stay_in : (tree : List Bucket) (x : ℕ) (rank : Rank) (levels : ℕ) (b : Bucket) (s : Step) → tree_fault tree ≡ None → Contains tree b →
    Contains (path tree x rank levels (Some b)) s → is_known tree s.item ≡ true
unfolding tree_fault fault_below_root
ways_stay_in tree x rank levels b s faultless here on =
    let known : has_unknown tree ≡ false = grind arith in
    path-known tree x rank levels (Some b) s known (λ c is. let same : b ≡ c = cc in subst (Contains tree) same here) on

in-first : (tree : List Bucket) (b : Bucket) → Contains tree b → Contains (below_levels tree 0) b
unfolding below_levels
in-first tree b there = there

pub ways_end : (tree : List Bucket) (x : ℕ) (rank : Rank) (more : ℕ) (b : Bucket) → tree_fault tree ≡ None → Contains tree b →
    path tree x rank (10 + more) (Some b) ≡ path tree x rank 10 (Some b)
unfolding tree_fault fault_below_root
ways_end tree x rank more b faultless here =
    let shallow : is_too_deep tree ≡ false = grind arith in
    path-ends tree x rank 10 more 0 (10 + more) (Some b) shallow refl refl (λ c is. let same : b ≡ c = cc in in-first tree c (subst (Contains tree) same here))

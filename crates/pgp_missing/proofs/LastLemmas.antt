-- Of each key the last element with it stands in the list, in the order of the keys.
use Rattle.std.proofs.Common.{◌≡◌, ◌≢◌, ◌⊎◌, List, [], ◌∷◌, map, fold, refl, ap, sym, ◌∙◌, subst, inl, inr, arith}
use Rattle.std.specs.Prelude.{◌↔◌}
use Rattle.std.specs.BTreeMap.{insert_entry}
use Rattle.std.specs.Cmp.{IsTotalOrder}
use Rattle.std.specs.List.{All, AllPairs, Contains}
use Rattle.std.specs.Ordering.{match_ordering, ordering_reverse}
use Rattle.std.specs.declared.cmp.Ordering.{Ordering}
use Rattle.std.specs.declared.cmp.Ordering.TheVariants.{Less, Equal, Greater}
use Rattle.std.proofs.lemmas.Cmp.{tied_itself}
use Rattle.std.proofs.lemmas.List.Elements.{All-nil, All-cons, All-contains, All-weaker, Contains-append_right}
use Rattle.std.proofs.lemmas.List.Kept.{AllPairs-cons}
use Rattle.std.proofs.lemmas.List.Sums.{fold-append}
use Rattle.pgp_missing.specs.Last.{put_in, last_of_each, IsLast}
use Rattle.pgp_lists.proofs.Members.{Contains-here, Contains-first, Contains-later, Contains-cases, Contains-nil, All-members}
use Rattle.pgp_lists.proofs.Pairs.{AllPairs-nil, AllPairs-first, AllPairs-rest}

-- what holds of each of three terms holds of the one that an order picks
pub match_each : {A : Type 0} (P : A → Type 0) (r : Ordering) (less equal greater : A) → (r ≡ Less → P less) → (r ≡ Equal → P equal) → (r ≡ Greater → P greater)
    → P (match_ordering r less equal greater)
match_each P Less less equal greater first second third = first refl
match_each P Equal less equal greater first second third = second refl
match_each P Greater less equal greater first second third = third refl

-- ---- the last with its key in a list with one element more in front

module _ {X K : Type 0} (key : X → K) where
  abbrev pub NoneHas : List X → X → Type 0
  NoneHas xs y = (other : X) → Contains xs other → key other ≢ key y

  pub IsLast-here : (x : X) (xs : List X) → NoneHas xs x → IsLast key (x ∷ xs) x
  IsLast-here x xs none = record { before = []; after = xs; split = refl; last = none }

  pub IsLast-later : (x : X) (xs : List X) (y : X) → IsLast key xs y → IsLast key (x ∷ xs) y
  IsLast-later x xs y last = record { before = x ∷ last.before; after = last.after; split = ap (λ zs. x ∷ zs) last.split; last = last.last }

  pub Contains-last : (xs : List X) (y : X) → IsLast key xs y → Contains xs y
  Contains-last xs y last =
      subst (λ zs. Contains zs y) (sym last.split) (Contains-append_right last.before (y ∷ last.after) y (Contains-here y last.after))

module _ {X K : Type 0} (key : X → K) (cmp : K → K → Ordering) (total : IsTotalOrder cmp) (exact : (a b : K) → cmp a b ≡ Equal → a ≡ b) where
  abbrev pub Before : X → X → Type 0
  Before x y = cmp (key x) (key y) ≡ Less

  abbrev pub Ordered : List X → Type 0
  Ordered xs = AllPairs Before xs

  before_apart : (x y : X) → Before x y → key y ≢ key x
  before_apart x y before same =
      let tied = tied_itself total (key x) in
      cc

  turned : (x y : X) → cmp (key x) (key y) ≡ Greater → Before y x
  turned x y greater = total.antisymm (key y) (key x) ∙ ap ordering_reverse greater

  ahead : (new x : X) (xs : List X) → Before new x → Ordered (x ∷ xs) → All (Before new) (x ∷ xs)
  ahead new x xs before ordered =
      All-cons (Before new) x xs before
      (All-weaker (Before x) (Before new) (λ y after. total.trans (key new) (key x) (key y) before after) xs (AllPairs-first Before x xs ordered))

  in_place : (new x : X) (xs : List X) → cmp (key new) (key x) ≡ Equal → Ordered (x ∷ xs) → All (Before new) xs
  in_place new x xs tied ordered = subst (λ k. All (λ y. cmp k (key y) ≡ Less) xs) (sym (exact (key new) (key x) tied)) (AllPairs-first Before x xs ordered)

  -- ---- what is in the list after one more was put in

  put_in-Contains : (xs : List X) (new y : X) → Ordered xs → Contains (put_in key cmp xs new) y → (new ≡ y) ⊎ (Contains xs y × (key y ≢ key new))
  put_in-Contains [] new y ordered = λ there. elim (Contains-cases new [] y there) [ inl here ↦ inl here | inr never ↦ absurd (Contains-nil y never) ]
  put_in-Contains (x ∷ xs) new y ordered =
      match_each (λ (zs : List X). Contains zs y → (new ≡ y) ⊎ (Contains (x ∷ xs) y × (key y ≢ key new))) (cmp (key new) (key x)) _ _ _
      (λ is there. elim (Contains-cases new (x ∷ xs) y there) [
        | inl here ↦ inl here
        | inr old ↦ inr (old, before_apart new y (All-contains (Before new) (x ∷ xs) y (ahead new x xs is ordered) old))
      ])
      (λ is there. elim (Contains-cases new xs y there) [
        | inl here ↦ inl here
        | inr old ↦ inr (Contains-later x xs y old, before_apart new y (All-contains (Before new) xs y (in_place new x xs is ordered) old))
      ])
      (λ is there. elim (Contains-cases x (put_in key cmp xs new) y there) [
        | inl here ↦ inr (Contains-first x xs y here, λ same. before_apart x new (turned new x is) (sym same ∙ ap key (sym here)))
        | inr later ↦ elim (put_in-Contains xs new y (AllPairs-rest Before x xs ordered) later) [
          | inl made ↦ inl made
          | inr old ↦ inr (Contains-later x xs y old.0, old.1)
        ]
      ])

  contains-put_in : (xs : List X) (new y : X) → (new ≡ y) ⊎ (Contains xs y × (key new ≢ key y)) → Contains (put_in key cmp xs new) y
  contains-put_in [] new y (inl here) = Contains-first new [] y here
  contains-put_in [] new y (inr old) = absurd (Contains-nil y old.0)
  contains-put_in (x ∷ xs) new y (inl here) =
      match_each (λ (zs : List X). Contains zs y) (cmp (key new) (key x)) _ _ _
      (λ _. Contains-first new (x ∷ xs) y here) (λ _. Contains-first new xs y here)
      (λ _. Contains-later x (put_in key cmp xs new) y (contains-put_in xs new y (inl here)))
  contains-put_in (x ∷ xs) new y (inr old) =
      match_each (λ (zs : List X). Contains zs y) (cmp (key new) (key x)) _ _ _
      (λ _. Contains-later new (x ∷ xs) y old.0)
      (λ is. elim (Contains-cases x xs y old.0) [
        | inl first ↦ absurd (old.1 (exact (key new) (key x) is ∙ ap key first))
        | inr later ↦ Contains-later new xs y later
      ])
      (λ is. elim (Contains-cases x xs y old.0) [
        | inl first ↦ Contains-first x (put_in key cmp xs new) y first
        | inr later ↦ Contains-later x (put_in key cmp xs new) y (contains-put_in xs new y (inr (later, old.1)))
      ])

  Ordered-put_in : (xs : List X) (new : X) → Ordered xs → Ordered (put_in key cmp xs new)
  Ordered-put_in [] new ordered = AllPairs-cons Before new [] (All-nil (Before new)) ordered
  Ordered-put_in (x ∷ xs) new ordered =
      let later : Ordered xs = AllPairs-rest Before x xs ordered in
      match_each Ordered (cmp (key new) (key x)) _ _ _
      (λ is. AllPairs-cons Before new (x ∷ xs) (ahead new x xs is ordered) ordered)
      (λ is. AllPairs-cons Before new xs (in_place new x xs is ordered) later)
      (λ is. AllPairs-cons Before x (put_in key cmp xs new)
      (All-members (Before x) (put_in key cmp xs new) (λ y in'. elim (put_in-Contains xs new y later in') [
        | inl here ↦ subst (Before x) here (turned new x is)
        | inr old ↦ All-contains (Before x) xs y (AllPairs-first Before x xs ordered) old.0
      ])) (Ordered-put_in xs new later))

  -- ---- after all were put in

  Ordered-fold : (xs acc : List X) → Ordered acc → Ordered (fold (put_in key cmp) acc xs)
  Ordered-fold [] acc ordered = ordered
  Ordered-fold (x ∷ xs) acc ordered = Ordered-fold xs (put_in key cmp acc x) (Ordered-put_in acc x ordered)

  fold-Contains : (xs acc : List X) (y : X) → Ordered acc → Contains (fold (put_in key cmp) acc xs) y → IsLast key xs y ⊎ (Contains acc y × NoneHas key xs y)
  fold-Contains [] acc y ordered in' = inr (in', λ other never. absurd (Contains-nil other never))
  fold-Contains (x ∷ xs) acc y ordered in' = elim (fold-Contains xs (put_in key cmp acc x) y (Ordered-put_in acc x ordered) in') [
    | inl last ↦ inl (IsLast-later key x xs y last)
    | inr stays ↦ elim (put_in-Contains acc x y ordered stays.0) [
      | inl here ↦ inl (subst (IsLast key (x ∷ xs)) here (IsLast-here key x xs (λ other later same. stays.1 other later (same ∙ ap key here))))
      | inr old ↦ inr (
        old.0,
        λ other there. elim (Contains-cases x xs other there) [
          | inl first ↦ λ same. old.1 (sym same ∙ ap key (sym first))
          | inr later ↦ stays.1 other later
        ],
      )
    ]
  ]

  Contains-fold : (xs acc : List X) (y : X) → Contains acc y → NoneHas key xs y → Contains (fold (put_in key cmp) acc xs) y
  Contains-fold [] acc y in' none = in'
  Contains-fold (x ∷ xs) acc y in' none =
      Contains-fold xs (put_in key cmp acc x) y (contains-put_in acc x y (inr (in', none x (Contains-here x xs)))) (λ other there. none other (Contains-later x xs other there))

  pub last_of_each-ordered : (xs : List X) → Ordered (last_of_each key cmp xs)
  last_of_each-ordered xs = Ordered-fold xs [] (AllPairs-nil Before)

  pub last_of_each-IsLast : (xs : List X) (y : X) → Contains (last_of_each key cmp xs) y ↔ IsLast key xs y
  last_of_each-IsLast xs y = (
    λ in'. elim (fold-Contains xs [] y (AllPairs-nil Before) in') [ inl last ↦ last | inr never ↦ absurd (Contains-nil y never.0) ],
    λ last.
        let so_far : List X = fold (put_in key cmp) [] last.before in
        rw (last.split, fold-append (put_in key cmp) [] last.before (y ∷ last.after))
        (Contains-fold last.after (put_in key cmp so_far y) y (contains-put_in so_far y y (inl refl)) last.last),
  )

  -- ---- a map by the keys

  pub map-insert_entry : {V : Type 0} (made : K × V → X) → ((e : K × V) → key (made e) ≡ e.0) → (es : List (K × V)) (k : K) (v : V)
      → map made (insert_entry cmp es k v) ≡ put_in key cmp (map made es) (made (k, v))
  map-insert_entry made keyed [] k v = refl
  map-insert_entry made keyed (e ∷ es) k v = grind (arith, keyed (k, v), keyed e, exact k e.0, map-insert_entry made keyed es k v)

-- By any preference a list of infos of distinct members has one info to which no other is preferred, and the search
-- finds it.
use Rattle.std.proofs.Common.{◌≡◌, ◌≢◌, ℕ, ◌<◌, ◌⊎◌, List, [], ◌∷◌, ◌++◌, Option, Some, None, Bool, true, false, not, cond, length, take, get_or, refl, ap, sym, ◌∙◌, subst, inl, inr, arith}
use Rattle.std.specs.List.{All, Contains, filter, find}
use Rattle.std.proofs.lemmas.Bool.{cases_Bool, cases_order, not-true}
use Rattle.std.proofs.lemmas.Bool.Decides.{nat_tests}
use Rattle.std.proofs.lemmas.List.{get_or-take, get_or_append_left, get_or_default, get_or_push, length-take, length_push}
use Rattle.std.proofs.lemmas.List.Elements.{All-contains, All-contains_itself, All-weaker, Contains-push, Contains-append_left, Contains-push_cases, filter_passes}
use Rattle.std.proofs.lemmas.List.Kept.{AllPairs-filter}
use Rattle.std.proofs.lemmas.List.Quantifiers.{all_pairs_push}
use Rattle.std.proofs.lemmas.List.Sums.{AllPass-from_list_all, list_all-from_AllPass}
use Rattle.pgp_ids.specs.Member.{is_same_member}
use Rattle.pgp_lists.proofs.Lists.{take-front}
use Rattle.pgp_lists.proofs.Members.{Contains-nil, Contains-here, Contains-later, Contains-cases, find-some, find-none}
use Rattle.pgp_lists.proofs.Pairs.{AllPairs-nil, AllPairs-first, AllPairs-rest}
use Rattle.pgp_ids.specs.declared.member.Member.{Member}
use Rattle.pgp_ids.specs.declared.report.Info.{Info}
use Rattle.pgp_info.specs.Preference.{IsPreference}
use Rattle.pgp_info.specs.Best.{HasDistinctMembers, candidates, is_unbeaten, best_info, IsBest}
use Rattle.pgp_info.specs.Heard.{without, with_info}
use Rattle.pgp_info.specs.Lead.{is_ahead}

-- ---- infos of distinct members

-- two of them are one and the same, or of two members
same_or_distinct : (infos : List Info) → HasDistinctMembers infos → (a b : Info) → Contains infos a → Contains infos b → (a ≡ b) ⊎ (a.member ≢ b.member)
same_or_distinct infos distinct a b in_a in_b =
    let at_b : get_or infos in_b.0 a ≡ b = get_or_default infos in_b.0 a b in_b.1 ∙ in_b.2 in
    elim (cases_order in_a.0 in_b.0) [
      | inl here ↦ inl (sym in_a.2 ∙ ap (λ k. get_or infos k a) here ∙ at_b)
      | inr apart ↦ inr (λ same. grind (arith, distinct in_a.0 in_b.0 a, distinct in_b.0 in_a.0 a, at_b, in_a.2))
    ]

-- none of the infos is preferred to this one
abbrev Unbeaten : (Info → Info → Bool) → List Info → Info → Type 0
Unbeaten better infos info = (other : Info) → Contains infos other → better other info ≡ false

pub distinct_passing : (test : Info → Bool) (infos : List Info) → HasDistinctMembers infos → HasDistinctMembers (filter test infos)
distinct_passing test infos distinct = AllPairs-filter (λ a b. a.member ≢ b.member) test infos distinct

-- the last of infos of distinct members is of another member than the others
differ_last : (infos : List Info) (x : Info) → HasDistinctMembers (infos ++ x ∷ []) → (y : Info) → Contains infos y → x.member ≢ y.member
differ_last infos x distinct y in' same =
    let at_end : get_or (infos ++ x ∷ []) (length infos) y ≡ x = get_or_push infos x y (length infos) refl in
    grind (arith, distinct in'.0 (length infos) y, length_push infos x, get_or_append_left infos (x ∷ []) y in'.0 in'.1, at_end, in'.2)

pub distinct_take : (infos : List Info) (n : ℕ) → HasDistinctMembers infos → HasDistinctMembers (take n infos)
distinct_take infos n distinct = λ i j d less below.
    let low : j < n = omega (arith, length-take n infos) in
    rw (get_or-take n infos i d (omega arith), get_or-take n infos j d low) (distinct i j d less (omega (arith, length-take n infos)))

distinct_before : (infos : List Info) (x : Info) → HasDistinctMembers (infos ++ x ∷ []) → HasDistinctMembers infos
distinct_before infos x distinct = subst HasDistinctMembers (take-front infos (x ∷ [])) (distinct_take (infos ++ x ∷ []) (length infos) distinct)

-- the test and the fact
is_unbeaten-Unbeaten : (better : Info → Info → Bool) (infos : List Info) (m : Info) → is_unbeaten better infos m ≡ true → Unbeaten better infos m
is_unbeaten-Unbeaten better infos m is other in' =
    not-true (better other m)
    (All-contains (λ i. not (better i m) ≡ true) infos other (AllPass-from_list_all (λ i. not (better i m)) infos is) in')

Unbeaten-is_unbeaten : (better : Info → Info → Bool) (infos : List Info) (m : Info) → Unbeaten better infos m → is_unbeaten better infos m ≡ true
Unbeaten-is_unbeaten better infos m unbeaten =
    list_all-from_AllPass (λ i. not (better i m)) infos (All-weaker (Contains infos) (λ i. not (better i m) ≡ true) (λ i in'. ap not (unbeaten i in')) infos (All-contains_itself infos))

-- what a search for the unbeaten one is to find: an info to which none is preferred, or that there is none at all
abbrev pub Finds : (Info → Info → Bool) → List Info → Option Info → Type 0
Finds better infos None = infos ≡ []
Finds better infos (Some m) = Contains infos m × Unbeaten better infos m

-- the search in a whole list
abbrev pub unbeaten_of_all : (Info → Info → Bool) → List Info → Option Info
unbeaten_of_all better infos = find (is_unbeaten better infos) infos

module _ (better : Info → Info → Bool) (laws : IsPreference better) where
  -- an info that is preferred to the unbeaten one of others is unbeaten among them
  unbeaten_above : (x : Info) (infos : List Info) → HasDistinctMembers infos → ((y : Info) → Contains infos y → x.member ≢ y.member) → (m : Info) → Contains infos m → Unbeaten better infos m → better x m ≡ true → Unbeaten better infos x
  unbeaten_above x infos distinct differ m in_m unbeaten above other in' =
      let other_by_x = laws.transitive other x m (λ same. differ other in' (sym same)) (differ m in_m) in
      grind (arith, same_or_distinct infos distinct other m in' in_m, cases_Bool (better other x), laws.one_of_two x m (differ m in_m), other_by_x, unbeaten other in')

  -- of distinct infos only one is unbeaten
  one_unbeaten : (infos : List Info) → HasDistinctMembers infos → (a b : Info) → Contains infos a → Contains infos b → Unbeaten better infos a → Unbeaten better infos b → a ≡ b
  one_unbeaten infos distinct a b in_a in_b best_a best_b =
      grind (arith, same_or_distinct infos distinct a b in_a in_b, laws.one_of_two a b, best_a b in_b, best_b a in_a)

  -- ---- one info more, wherever it stands

  module _ (infos more : List Info) (x : Info) (distinct : HasDistinctMembers infos) (differ : (y : Info) → Contains infos y → x.member ≢ y.member)
      (here : Contains more x) (there : (y : Info) → Contains infos y → Contains more y) (cases : (y : Info) → Contains more y → (x ≡ y) ⊎ Contains infos y) where
    unbeaten_more : (m : Info) → Unbeaten better infos m → better x m ≡ false → Unbeaten better more m
    unbeaten_more m unbeaten less other in' = grind (arith, cases other in', less, unbeaten other)

    finds_more : (best : Option Info) → Finds better infos best → (ahead : Bool) → is_ahead better x best ≡ ahead → Finds better more (cond ahead (Some x) best)
    finds_more None finds true is =
        (here, unbeaten_more x (λ other in'. absurd (Contains-nil other (subst (λ (l : List Info). Contains l other) finds in'))) (laws.irreflexive x))
    finds_more None finds false is = cc
    finds_more (Some m) finds true is = (here, unbeaten_more x (unbeaten_above x infos distinct differ m finds.0 finds.1 is) (laws.irreflexive x))
    finds_more (Some m) finds false is = (there m finds.0, unbeaten_more m finds.1 is)

  -- ---- the search

  found_as : (infos : List Info) → HasDistinctMembers infos → (m : Info) → Contains infos m → Unbeaten better infos m → (found : Option Info) → unbeaten_of_all better infos ≡ found → found ≡ Some m
  found_as infos distinct m in_m unbeaten None found =
      grind (arith, Unbeaten-is_unbeaten better infos m unbeaten, find-none (is_unbeaten better infos) infos m found in_m)
  found_as infos distinct m in_m unbeaten (Some n) found =
      let other = find-some (is_unbeaten better infos) infos n found in
      ap Some (one_unbeaten infos distinct n m other.0 in_m (is_unbeaten-Unbeaten better infos n other.1) unbeaten)

  pub finds-search : (infos : List Info) → HasDistinctMembers infos → (best : Option Info) → Finds better infos best → unbeaten_of_all better infos ≡ best
  finds-search infos distinct None finds = ap (unbeaten_of_all better) finds
  finds-search infos distinct (Some m) finds = found_as infos distinct m finds.0 finds.1 (unbeaten_of_all better infos) refl

  some_finds : (infos : List Info) → HasDistinctMembers infos → (best : Option Info) × Finds better infos best
  some_finds [] distinct = (None, refl)
  some_finds (x ∷ infos) distinct =
      let others : HasDistinctMembers infos = AllPairs-rest (λ a b. a.member ≢ b.member) x infos distinct in
      let first : All (λ y. x.member ≢ y.member) infos = AllPairs-first (λ a b. a.member ≢ b.member) x infos distinct in
      let rest = some_finds infos others in (
        cond (is_ahead better x rest.0) (Some x) rest.0,
        finds_more infos (x ∷ infos) x others (λ y in'. All-contains (λ z. x.member ≢ z.member) infos y first in')
            (Contains-here x infos) (Contains-later x infos) (Contains-cases x infos) rest.0 rest.1 (is_ahead better x rest.0) refl,
      )

  pub search-finds : (infos : List Info) → HasDistinctMembers infos → (best : Option Info) → unbeaten_of_all better infos ≡ best → Finds better infos best
  search-finds infos distinct best found =
      let some = some_finds infos distinct in
      subst (Finds better infos) (sym (finds-search infos distinct some.0 some.1) ∙ found) some.1

  -- after one more at the end
  pub search_push : (infos : List Info) (x : Info) → HasDistinctMembers (infos ++ x ∷ []) → (best : Option Info) → unbeaten_of_all better infos ≡ best → unbeaten_of_all better (infos ++ x ∷ []) ≡ cond (is_ahead better x best) (Some x) best
  search_push infos x distinct best found =
      let before = distinct_before infos x distinct in
      finds-search (infos ++ x ∷ []) distinct (cond (is_ahead better x best) (Some x) best)
      (finds_more infos (infos ++ x ∷ []) x before (differ_last infos x distinct) (Contains-push infos x) (Contains-append_left infos (x ∷ []))
      (λ y in'. elim (Contains-push_cases infos x y in') [ inl before ↦ inr before | inr last ↦ inl last ]) best (search-finds infos before best found) (is_ahead better x best) refl)

-- ---- the best info

pub best_info-IsBest : (better : Info → Info → Bool) (infos : List Info) (m : Info) → best_info better infos ≡ Some m → IsBest better infos m
best_info-IsBest better infos m found =
    let is = find-some (is_unbeaten better (candidates infos)) (candidates infos) m found in
    record { candidate = is.0; unbeaten = is_unbeaten-Unbeaten better (candidates infos) m is.1 }

pub IsBest-best_info : (better : Info → Info → Bool) → IsPreference better → (infos : List Info) → HasDistinctMembers infos → (m : Info) → IsBest better infos m → best_info better infos ≡ Some m
IsBest-best_info better laws infos distinct m best = finds-search better laws (candidates infos) (distinct_passing _ infos distinct) (Some m) (best.candidate, best.unbeaten)

pub best_info-none : (better : Info → Info → Bool) → IsPreference better → (infos : List Info) → HasDistinctMembers infos → best_info better infos ≡ None → candidates infos ≡ []
best_info-none better laws infos distinct missed = search-finds better laws (candidates infos) (distinct_passing _ infos distinct) None missed

pub none-best_info : (better : Info → Info → Bool) (infos : List Info) → candidates infos ≡ [] → best_info better infos ≡ None
none-best_info better infos empty = ap (unbeaten_of_all better) empty

-- ---- infos that are put and dropped

pub distinct_nobody : HasDistinctMembers []
distinct_nobody = AllPairs-nil (λ a b. a.member ≢ b.member)

pub distinct_without : (member : Member) (infos : List Info) → HasDistinctMembers infos → HasDistinctMembers (without member infos)
distinct_without member infos distinct = distinct_passing _ infos distinct

differ_kept : (member : Member) (infos : List Info) → All (λ y. y.member ≢ member) (without member infos)
differ_kept member infos =
    All-weaker (λ y. not (is_same_member y.member member) ≡ true) (λ y. y.member ≢ member) (λ y passes same. grind (arith, nat_tests, passes, same))
    (without member infos) (filter_passes (λ info. not (is_same_member info.member member)) infos)

pub distinct_with : (info : Info) (infos : List Info) → HasDistinctMembers infos → HasDistinctMembers (with_info info infos)
distinct_with info infos distinct =
    all_pairs_push (λ a b. a.member ≢ b.member) (without info.member infos) info (distinct_without info.member infos distinct) (differ_kept info.member infos)

pub ruleset distinct_laws = (distinct_nobody, distinct_with, distinct_without)

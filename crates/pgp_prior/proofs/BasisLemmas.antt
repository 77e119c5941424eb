-- The index stays that of its group, call after call.
use Rattle.std.proofs.Common.{Vec, Global, HashMap, BuildHasherDefault, FoldHasher, ◌≡◌, ◌≤◌, ℕ, List, [], ◌∷◌, ◌++◌, Some, Bool, false, not, ◌==◌, nat_eq, nat_lt, length, map, slice_get, refl, sym, ap, ◌∙◌, subst, inl, inr, eqb-true, eq-eqb}
use Rattle.std.specs.List.{Contains, list_any, filter, flat_map}
use Rattle.std.proofs.lemmas.Bool.{cases_Bool, true≢false}
use Rattle.std.proofs.lemmas.List.{length-map, map_push}
use Rattle.std.proofs.lemmas.Option.{slice_get-map}
use Rattle.pgp_ids.specs.Member.{is_before}
use Rattle.pgp_ids.specs.declared.member.Member.{Member}
use Rattle.pgp_ids.specs.declared.past.Past.{Past}
use Rattle.pgp_lists.specs.Ordered.{ascending}
use Rattle.pgp_lists.proofs.Members.{any-contains, none-contains}
use Rattle.pgp_sets.specs.declared.status.Status.{Status}
use Rattle.pgp_prior.specs.declared.judged_interval.Change.{Change}
use Rattle.pgp_prior.specs.declared.index.PriorIndex.{PriorIndex}
use Rattle.pgp_prior.specs.declared.judged_interval.JudgedInterval.{JudgedInterval}
use Rattle.pgp_prior.specs.declared.prior_set.Prior.{Prior}
use Rattle.pgp_prior.specs.Members.{members_of}
use Rattle.pgp_prior.specs.Changes.{allows, IsChangeIn, IsChange}
use Rattle.pgp_prior.specs.kept.JudgedInterval.{IsKept, past_of, later_les, EachKept, IsUnderWay}
use Rattle.pgp_prior.specs.kept.KeptLists.{kept_matters, kept_blocks, up_of, down_of}
use Rattle.pgp_prior.specs.kept.Places.{places_of}
use Rattle.pgp_ids.specs.Past.{raised_at}
use Rattle.pgp_prior.specs.IndexOf.{Basis, IsIndexOf, prior_by, HasEachPlace}
use Rattle.pgp_prior.proofs.BetterLemmas.{blocks-same}
use Rattle.pgp_prior.proofs.PriorLemmas.{prior-by_lists}
use Rattle.pgp_prior.proofs.IndexLemmas.{each-later, each-more, pasts-later, places-more, ups-same, downs-same}
use Rattle.pgp_prior.proofs.KeptLemmas.{Law}
use Rattle.pgp_prior.proofs.RaisedLemmas.{places-raised}
use Rattle.pgp_prior.proofs.WayLemmas.{at-contains}

-- an interval in which the device doesn't stand
untouched : (enough : List ℕ → Bool) (by_place : Bool) (monotone : Law enough) (allowed : Status → Status → Bool) (osd : ℕ) (told old new : ℕ → ℕ → Status) (les : ℕ) (kept : JudgedInterval) → IsKept enough by_place old les kept → IsChangeIn allowed by_place osd told old new kept.past → list_any (λ (m : Member). nat_eq m.osd osd) (members_of by_place kept.past.members.acting) ≡ false → IsKept enough by_place new les kept
untouched enough by_place monotone allowed osd told old new les kept was is none =
    let members : List Member = members_of by_place kept.past.members.acting in
    let same : (m : Member) → Contains members m → old m.osd kept.past.first ≡ new m.osd kept.past.first = λ m in'.
    sym (is.of_others m in' (λ it. true≢false (sym (eq-eqb m.osd osd it) ∙ none-contains (λ (m : Member). nat_eq m.osd osd) members m none in'))) in
    record {
      statuses_are = λ m in'. was.statuses_are m in' ∙ ap Some (same m in');
      blocks_is = was.blocks_is ∙ blocks-same by_place enough monotone les old new kept.past same;
    }

module _ {C : Type 0} (enough : C → List ℕ → Bool) (by_place : C → Bool) (b : Basis C) (index : PriorIndex C) (is : IsIndexOf enough by_place b index) where
  -- before the first interval of a device is renewed
  pub way-start : (monotone : Law (enough b.code)) (kind : Change) (osd : ℕ) (told status : ℕ → ℕ → Status) → IsChange (allows kind) (by_place b.code) osd told b.status status b.past
      → IsUnderWay (enough index.code) (by_place index.code) index.les b.status status (places_of index.places osd) index.past.items
  way-start monotone kind osd told status change = rw (is.code_is, is.les_is) (λ place kept at.
      let members : List Member = members_of (by_place b.code) kept.past.members.acting in
      let there : slice_get b.past place ≡ Some kept.past = rw (← is.past_are, slice_get-map past_of index.past.items place, at) refl in
      let was = is.each_kept kept (at-contains index.past.items place kept at) in
      elim (cases_Bool (list_any (λ (m : Member). nat_eq m.osd osd) members)) [
        | inl some ↦
            let found = any-contains (λ (m : Member). nat_eq m.osd osd) members some in
            inr (was, subst (λ o. Contains (places_of index.places o) place) (eqb-true found.0.osd osd found.1.1) (is.places_are place kept.past found.0 there found.1.0))
        | inr none ↦
            let changed = change kept.past (at-contains b.past place kept.past there) in
            inl (untouched (enough b.code) (by_place b.code) monotone (allows kind) osd told b.status status b.les kept was changed none)
      ])

  pub change-here : (kind : Change) (osd : ℕ) (told status : ℕ → ℕ → Status) → IsChange (allows kind) (by_place b.code) osd told b.status status b.past → IsChange (allows kind) (by_place index.code) osd told b.status status (map past_of index.past.items)
  change-here kind osd told status change = rw (is.code_is, is.past_are) change

  -- every interval was renewed
  pub renewed : (status : ℕ → ℕ → Status) (past : Vec JudgedInterval Global) → map past_of past.items ≡ map past_of index.past.items
      → EachKept (enough index.code) (by_place index.code) status index.les past.items → IsIndexOf enough by_place (record b { status = status }) (record index { past = past })
  renewed status past same each =
      let each' : EachKept (enough b.code) (by_place b.code) status b.les past.items = rw (← is.code_is, ← is.les_is) each in
      assumption (each', same ∙ is.past_are)

  -- one interval may have gone read-write after all
  pub raised : (place : ℕ) (past : Vec JudgedInterval Global) → map past_of past.items ≡ raised_at place (map past_of index.past.items)
      → ((status : ℕ → ℕ → Status) → EachKept (enough index.code) (by_place index.code) status index.les index.past.items → EachKept (enough index.code) (by_place index.code) status index.les past.items)
      → IsIndexOf enough by_place (record b { past = raised_at place b.past }) (record index { past = past })
  raised place past now keeps =
      let was : EachKept (enough index.code) (by_place index.code) b.status index.les index.past.items = rw (is.code_is, is.les_is) is.each_kept in
      let each : EachKept (enough b.code) (by_place b.code) b.status b.les past.items = rw (← is.code_is, ← is.les_is) (keeps b.status was) in
      let same : map past_of past.items ≡ raised_at place b.past = now ∙ ap (raised_at place) is.past_are in
      let there = places-raised (by_place b.code) place b.past (places_of index.places) is.places_are in
      assumption (each, same, there)

  -- the group began to serve later
  pub later : (les : ℕ) (past : Vec JudgedInterval Global) → b.les ≤ les → past.items ≡ map (later_les les) index.past.items
      → IsIndexOf enough by_place (record b { les = les }) (record index { past = past; les = les })
  later les past rises now =
      let each : EachKept (enough b.code) (by_place b.code) b.status les past.items =
      rw now (each-later (enough b.code) (by_place b.code) b.status b.les les index.past.items rises is.each_kept) in
      let same : map past_of past.items ≡ b.past = ap (map past_of) now ∙ pasts-later les index.past.items ∙ is.past_are in
      let the_les : les ≡ les = refl in
      assumption (each, same, the_les)

  module _ (past : Vec JudgedInterval Global) (places : HashMap ℕ (List ℕ) (BuildHasherDefault FoldHasher)) (keeps : (q at : ℕ) → Contains (places_of index.places q) at → Contains (places_of places q) at) where
    -- places were added, and no interval
    pub kept : past.items ≡ index.past.items → IsIndexOf enough by_place b (record index { past = past; places = places })
    kept same =
        let each : EachKept (enough b.code) (by_place b.code) b.status b.les past.items = rw same is.each_kept in
        let there : HasEachPlace (by_place b.code) b.past (places_of places) = λ place interval member at in'. keeps member.osd place (is.places_are place interval member at in') in
        assumption (each, there, ap (map past_of) same ∙ is.past_are)

    -- an interval was added, with its place for each device that stands in it
    pub more : (last : JudgedInterval) (interval : Past) → last.past ≡ interval → past.items ≡ index.past.items ++ last ∷ [] → IsKept (enough index.code) (by_place index.code) b.status index.les last
        → ((member : Member) → Contains (members_of (by_place index.code) interval.members.acting) member → Contains (places_of places member.osd) (length index.past.items))
        → IsIndexOf enough by_place (record b { past = b.past ++ interval ∷ [] }) (record index { past = past; places = places })
    more last interval of items holds added =
        let here : IsKept (enough b.code) (by_place b.code) b.status b.les last = rw (← is.code_is, ← is.les_is) holds in
        let each : EachKept (enough b.code) (by_place b.code) b.status b.les past.items =
        rw items (each-more (enough b.code) (by_place b.code) b.status b.les index.past.items last is.each_kept here) in
        let count : length index.past.items ≡ length b.past = sym (length-map index.past.items past_of) ∙ ap length is.past_are in
        let there : HasEachPlace (by_place b.code) (b.past ++ interval ∷ []) (places_of places) =
        places-more (by_place b.code) b.past interval (places_of index.places) (places_of places) (length index.past.items) count is.places_are keeps (λ m in'. added m (rw is.code_is in')) in
        let same : map past_of past.items ≡ b.past ++ interval ∷ [] = rw (items, map_push past_of index.past.items last, is.past_are, of) refl in
        assumption (each, there, same)

  -- the two lists of the index are those of the prior set
  pub index-prior : (members : List Member) (devices : List ℕ) (none : Bool) → members ≡ ascending is_before (members_of (by_place index.code) index.current.up ++ members_of (by_place index.code) index.current.acting ++ flat_map (up_of (by_place index.code)) (filter (kept_matters index.les) index.past.items)) → devices ≡ ascending nat_lt (flat_map (down_of (by_place index.code)) (filter kept_blocks index.past.items)) → none ≡ (length devices == 0) → ◌≡◌ {A = Prior} (record { probe = members; blocked_by = devices; down = not none }) (prior_by enough by_place b)
  index-prior members devices none heard waited empty =
      prior-by_lists (enough b.code) (by_place b.code) b.status b.les b.past b.current members devices none
      (rw (← is.past_are, ← ups-same (enough b.code) (by_place b.code) b.status b.les index.past.items is.each_kept, ← is.code_is, ← is.current_is, ← is.les_is) heard)
      (rw (← is.past_are, ← downs-same (enough b.code) (by_place b.code) b.status b.les index.past.items is.each_kept, ← is.code_is) waited)
      empty

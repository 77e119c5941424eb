-- The index stays that of its group.
use Rattle.std.proofs.Common.{◌≡◌, ◌⊎◌, ◌≤◌, ℕ, zero, suc, List, [], ◌∷◌, ◌++◌, Some, Bool, length, map, slice_get, refl, sym, ap, ◌∙◌, subst, inl, inr, arith}
use Rattle.std.specs.List.{Contains, filter, flat_map}
use Rattle.std.proofs.lemmas.List.Elements.{Contains-push_cases}
use Rattle.std.proofs.lemmas.Bool.Decides.{nat_tests}
use Rattle.pgp_ids.specs.declared.member.Member.{Member}
use Rattle.pgp_ids.specs.declared.past.Past.{Past}
use Rattle.pgp_lists.proofs.Members.{Contains-here, Contains-later, filter-agree, map-contains}
use Rattle.pgp_sets.specs.declared.status.Status.{Status}
use Rattle.pgp_prior.specs.declared.judged_interval.JudgedInterval.{JudgedInterval}
use Rattle.pgp_prior.specs.Members.{members_of}
use Rattle.pgp_prior.specs.Blocks.{is_up_status, is_down, matters, acting_where, down_osds, blocks}
use Rattle.pgp_prior.specs.kept.JudgedInterval.{IsKept, past_of, later_les, EachKept}
use Rattle.pgp_prior.specs.kept.KeptLists.{kept_status, kept_matters, kept_blocks, up_of, down_of}
use Rattle.pgp_prior.specs.IndexOf.{HasEachPlace}
use Rattle.pgp_prior.proofs.KnownStatusLemmas.{status_or_gone-is}

-- ---- a later epoch in which the group last began to serve

module _ (enough : List ℕ → Bool) (by_place : Bool) (status : ℕ → ℕ → Status) where
  kept-later : (les later : ℕ) (kept : JudgedInterval) → les ≤ later → IsKept enough by_place status les kept → IsKept enough by_place status later (later_les later kept)
  kept-later les later kept rises is = grind (arith, nat_tests, is.statuses_are)

  pub each-later : (les later : ℕ) (past : List JudgedInterval) → les ≤ later → EachKept enough by_place status les past → EachKept enough by_place status later (map (later_les later) past)
  each-later les later past rises each kept in' =
      let found = map-contains (later_les later) past kept in' in
      subst (IsKept enough by_place status later) found.1.1 (kept-later les later found.0 rises (each found.0 found.1.0))

  pub each-more : (les : ℕ) (past : List JudgedInterval) (last : JudgedInterval) → EachKept enough by_place status les past → IsKept enough by_place status les last → EachKept enough by_place status les (past ++ last ∷ [])
  each-more les past last each is kept in' = grind (arith, each kept, Contains-push_cases past last kept in', is)

pub pasts-later : (later : ℕ) (past : List JudgedInterval) → map past_of (map (later_les later) past) ≡ map past_of past
pasts-later later [] = refl
pasts-later later (kept ∷ past) = ap (λ rest. kept.past ∷ rest) (pasts-later later past)

-- ---- the places of the intervals

get-snoc : {X : Type 0} (xs : List X) (x y : X) (k : ℕ) → slice_get (xs ++ x ∷ []) k ≡ Some y → (slice_get xs k ≡ Some y) ⊎ ((k ≡ length xs) × (x ≡ y))
get-snoc [] x y zero is = inr (refl, cc)
get-snoc [] x y (suc k) is = cc
get-snoc (z ∷ xs) x y zero is = inl is
get-snoc (z ∷ xs) x y (suc k) is = grind (arith, get-snoc xs x y k)

module _ (by_place : Bool) (past : List Past) where
  pub places-more : (interval : Past) (places more : ℕ → List ℕ) (place : ℕ) → place ≡ length past → HasEachPlace by_place past places → ((q at : ℕ) → Contains (places q) at → Contains (more q) at) → ((member : Member) → Contains (members_of by_place interval.members.acting) member → Contains (more member.osd) place) → HasEachPlace by_place (past ++ interval ∷ []) more
  places-more interval places more place last has keeps added at p member is in' = elim (get-snoc past interval p at is) [
    | inl before ↦ keeps member.osd at (has at p member before in')
    | inr here ↦ subst (Contains (more member.osd)) (last ∙ sym here.0) (added member (subst (λ (q : Past). Contains (members_of by_place q.members.acting) member) (sym here.1) in'))
  ]

-- ---- the two lists

-- a walk over intervals that are kept is one over the intervals
walk-same : {X Y Z : Type 0} (of : X → Y) (test : X → Bool) (other : Y → Bool) (read : X → List Z) (reads : Y → List Z) (xs : List X) → ((x : X) → Contains xs x → test x ≡ other (of x)) → ((x : X) → Contains xs x → read x ≡ reads (of x)) → flat_map read (filter test xs) ≡ flat_map reads (filter other (map of xs))
walk-same of test other read reads [] same alike = refl
walk-same of test other read reads (x ∷ xs) same alike =
    let rest = walk-same of test other read reads xs (λ y in'. same y (Contains-later x xs y in')) (λ y in'. alike y (Contains-later x xs y in')) in
    grind (arith, same x (Contains-here x xs), alike x (Contains-here x xs), rest)

module _ (enough : List ℕ → Bool) (by_place : Bool) (status : ℕ → ℕ → Status) (les : ℕ) where
  acting-same : (test : Status → Bool) (kept : JudgedInterval) → IsKept enough by_place status les kept → acting_where test by_place (kept_status kept) kept.past ≡ acting_where test by_place status kept.past
  acting-same test kept is =
      filter-agree _ _ (members_of by_place kept.past.members.acting)
      (λ m in'. ap test (status_or_gone-is kept.statuses.known.items m.osd _ (is.statuses_are m in')))

  pub ups-same : (past : List JudgedInterval) → EachKept enough by_place status les past → flat_map (up_of by_place) (filter (kept_matters les) past) ≡ flat_map (acting_where is_up_status by_place status) (filter (matters les) (map past_of past))
  ups-same past each =
      walk-same past_of (kept_matters les) (matters les) (up_of by_place) (acting_where is_up_status by_place status) past
      (λ kept in'. refl) (λ kept in'. acting-same is_up_status kept (each kept in'))

  pub downs-same : (past : List JudgedInterval) → EachKept enough by_place status les past → flat_map (down_of by_place) (filter kept_blocks past) ≡ flat_map (down_osds by_place status) (filter (blocks enough by_place status les) (map past_of past))
  downs-same past each =
      walk-same past_of kept_blocks (blocks enough by_place status les) (down_of by_place) (down_osds by_place status) past
      (λ kept in'. (each kept in').blocks_is) (λ kept in'. ap (map (λ (m : Member). m.osd)) (acting-same is_down kept (each kept in')))

-- Intervals that are renewed one after another, at the places that a device has.
use Rattle.std.proofs.Common.{Vec, Global, ◌≡◌, ◌⊎◌, ◌≤◌, ℕ, List, [], ◌∷◌, Some, Bool, length, map, slice_get, set, sym, ap, ◌∙◌, subst, inl, inr, arith}
use Rattle.std.specs.List.{Contains}
use Rattle.std.specs.Vec.{with_items}
use Rattle.std.proofs.lemmas.List.{length-map, with_items_is}
use Rattle.std.proofs.lemmas.Bool.{cases_eq}
use Rattle.std.proofs.lemmas.Option.{slice_get_within, slice_get-get_or, get_or_from_slice_get}
use Rattle.pgp_lists.proofs.Lists.{get-set_other, get-set_same}
use Rattle.pgp_lists.proofs.Members.{Contains-nil, Contains-cases}
use Rattle.pgp_sets.specs.declared.status.Status.{Status}
use Rattle.pgp_prior.specs.declared.judged_interval.JudgedInterval.{JudgedInterval}
use Rattle.pgp_prior.specs.kept.JudgedInterval.{IsKept, past_of, EachKept, IsUnderWay}

pub at-contains : {X : Type 0} (xs : List X) (k : ℕ) (x : X) → slice_get xs k ≡ Some x → Contains xs x
at-contains xs k x is = (k, slice_get_within xs k x is, get_or_from_slice_get xs k x x is)

-- a list of the same intervals takes the place of the one that was
pub written : (past : Vec JudgedInterval Global) (items : List JudgedInterval) → map past_of items ≡ map past_of past.items → (with_items past items).items ≡ items
written past items same = with_items_is past items (omega (arith, ap length same, length-map items past_of, length-map past.items past_of, past.ok.0))

module _ (enough : List ℕ → Bool) (by_place : Bool) (les : ℕ) (old new : ℕ → ℕ → Status) where
  pub way-done : (past : List JudgedInterval) → IsUnderWay enough by_place les old new [] past → EachKept enough by_place new les past
  way-done past way kept in' =
      elim (way in'.0 kept (slice_get-get_or past in'.0 kept in'.1 ∙ ap Some in'.2)) [ inl done ↦ done | inr left ↦ absurd (Contains-nil in'.0 left.1) ]

  -- another place than the one that is done with
  way-other : (q place : ℕ) (rest : List ℕ) (kept : JudgedInterval) → (q ≡ place → ⊥)
      → IsKept enough by_place new les kept ⊎ (IsKept enough by_place old les kept × Contains (q ∷ rest) place)
      → IsKept enough by_place new les kept ⊎ (IsKept enough by_place old les kept × Contains rest place)
  way-other q place rest kept apart (inl done) = inl done
  way-other q place rest kept apart (inr left) = elim (Contains-cases q rest place left.1) [ inl here ↦ absurd (apart here) | inr later ↦ inr (left.0, later) ]

  -- the place is past the end
  pub way-past : (q : ℕ) (rest : List ℕ) (past : List JudgedInterval) → length past ≤ q → IsUnderWay enough by_place les old new (q ∷ rest) past → IsUnderWay enough by_place les old new rest past
  way-past q rest past beyond way place kept at =
      let below = slice_get_within past place kept at in
      way-other q place rest kept (λ here. omega (arith, here, below, beyond)) (way place kept at)

  -- the interval at the place was renewed
  pub way-renewed : (q : ℕ) (rest : List ℕ) (past : List JudgedInterval) (was now : JudgedInterval) → slice_get past q ≡ Some was
      → (IsKept enough by_place old les was → IsKept enough by_place new les now) → (IsKept enough by_place new les was → IsKept enough by_place new les now)
      → IsUnderWay enough by_place les old new (q ∷ rest) past → IsUnderWay enough by_place les old new rest (set past q now)
  way-renewed q rest past was now there renew again way place kept at = elim (cases_eq q place) [
    | inl here ↦
        let found : Some now ≡ Some kept = sym (get-set_same past q now (slice_get_within past q was there)) ∙ subst (λ k. slice_get (set past q now) k ≡ Some kept) (sym here) at in
        let same : now ≡ kept = cc in
        inl (subst (IsKept enough by_place new les) same (elim (way q was there) [ inl done ↦ again done | inr left ↦ renew left.0 ]))
    | inr apart ↦ way-other q place rest kept apart (way place kept (sym (get-set_other past q place now (λ here. apart (sym here))) ∙ at))
  ]

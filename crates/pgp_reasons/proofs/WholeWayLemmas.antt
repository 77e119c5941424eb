-- The smallest sets of devices that bring a group back tell all of its ways.
use Rattle.std.proofs.Common.{◌≡◌, ℕ, List, [], ◌++◌, Bool, true, false, not, cond, length, nat_eq, nat_le, nat_lt, ◌&&◌, ap, sym, ◌∙◌, subst, inl, inr, arith}
use Rattle.std.specs.List.{Contains, count_by, list_any}
use Rattle.std.proofs.lemmas.Bool.{cases_Bool, not-false, not-true, true≢false}
use Rattle.std.proofs.lemmas.List.Sums.{length-filter}
use Rattle.pgp_code.specs.AnyCode.{enough_of, enough_of-mono, is_by_place}
use Rattle.pgp_lists.proofs.Members.{contains-append, Contains-nil, filter-agree, filter-contains, flat_map-contains, map-contains}
use Rattle.pgp_map.specs.Devices.{exists, is_up, lost_at}
use Rattle.pgp_prior.proofs.PriorLemmas.{blocked_by-IsBlocking}
use Rattle.pgp_prior.specs.Blocks.{acting_where}
use Rattle.pgp_prior.specs.Members.{members_of}
use Rattle.pgp_sets.specs.Status.{status, status_by}
use Rattle.pgp_ids.specs.declared.member.Member.{Member}
use Rattle.pgp_sets.specs.declared.status.Status.TheVariants.{Down, Gone}
use Rattle.pgp_group.specs.GroupLog.{GroupLog, incs}
use Rattle.pgp_group.specs.Heard.{les}
use Rattle.pgp_group.specs.Peering.{past, prior}
use Rattle.pgp_reasons.specs.Fates.{is_gone, osds_with}
use Rattle.pgp_reasons.specs.GroupWays.{blocking_past, brings_back, destroyed_osds, is_down_with, ways}
use Rattle.pgp_reasons.specs.Reasons.{AreWaysOf}
use Rattle.pgp_reasons.specs.Smallest.{holds, smallest, IsPartOf}
use Rattle.pgp_reasons.specs.WayLaws.{relieved-more}
use Rattle.pgp_reasons.specs.declared.ways.AnyOf.{AnyOf}
use Rattle.pgp_reasons.specs.declared.ways.Ways.TheVariants as listed
use Rattle.pgp_reasons.proofs.SameWayLemmas.{kept_of, kept-awaited, kept-down, kept-held, kept-part, same-down}
use Rattle.pgp_reasons.proofs.SetLemmas.{one-held, smallest-enough, smallest-no_part, smallest-within}

-- ---- more devices

pub more-helps : (starts losses others given : List ℕ) (g : GroupLog) → IsPartOf starts others → IsPartOf losses given → is_down_with starts losses g ≡ false → is_down_with others given g ≡ false
more-helps starts losses others given g are lost up =
    not-true (is_down_with others given g)
    (relieved-more (enough_of g.history.code) (is_by_place g.history.code) (enough_of-mono g.history.code) (status (incs g)) (les g) (past g) starts others losses given are lost (ap not up))

pub IsMonotone-brings_back : (g : GroupLog) → (part set : List ℕ) → IsPartOf part set → brings_back g part ≡ true → brings_back g set ≡ true
IsMonotone-brings_back g part set is back = ap not (more-helps part [] set [] g is (λ o in'. in') (not-true (is_down_with part [] g) back))

-- ---- the smallest sets tell all

module _ (g : GroupLog) where
  in-ways : (set : List ℕ) → Contains (ways g) set → Contains (smallest (brings_back g) (prior g).blocked_by) set
  in-ways set in' = elim (cases_Bool (prior g).down) [
    | inl down ↦ subst (λ (b : Bool). Contains (cond b (smallest (brings_back g) (prior g).blocked_by) []) set) down in'
    | inr up ↦ absurd (Contains-nil set (subst (λ (b : Bool). Contains (cond b (smallest (brings_back g) (prior g).blocked_by) []) set) up in'))
  ]

  pub ways-of_them : (set : List ℕ) → Contains (ways g) set → IsPartOf set (prior g).blocked_by
  ways-of_them set in' = (smallest-enough (brings_back g) (prior g).blocked_by set (in-ways set in')).1

  pub ways-enough : (set starts losses : List ℕ) → Contains (ways g) set → IsPartOf losses set → IsPartOf set (starts ++ losses) → is_down_with starts losses g ≡ false
  ways-enough set starts losses in' some all =
      let enough : is_down_with set [] g ≡ false = not-true (is_down_with set [] g) (smallest-enough (brings_back g) (prior g).blocked_by set (in-ways set in')).0 in
      same-down g starts losses (λ o there. ways-of_them set in' o (some o there))
      ∙ more-helps set [] (starts ++ losses) [] g all (λ o there. there) enough

  pub ways-no_part : (set starts losses : List ℕ) (osd : ℕ) → Contains (ways g) set → IsPartOf (starts ++ losses) set → Contains set osd → (Contains (starts ++ losses) osd → ⊥) → is_down_with starts losses g ≡ true
  ways-no_part set starts losses osd in' is there lacks =
      same-down g starts losses (λ o o-in. ways-of_them set in' o (is o (contains-append starts losses o (inr o-in))))
      ∙ not-false (is_down_with (starts ++ losses) [] g)
      (smallest-no_part (brings_back g) (IsMonotone-brings_back g) (prior g).blocked_by set (starts ++ losses) osd (in-ways set in') is there lacks)

  pub ways-each : (starts losses : List ℕ) → (prior g).down ≡ true → ((osd : ℕ) → Contains starts osd → Contains (destroyed_osds g) osd → ⊥) → is_down_with starts losses g ≡ false
      → (set : List ℕ) × (Contains (ways g) set × IsPartOf set (starts ++ losses))
  ways-each starts losses down none up =
      let kept : List ℕ = kept_of g starts losses in
      let found = smallest-within (brings_back g) (IsMonotone-brings_back g) (prior g).blocked_by kept (kept-awaited g starts losses) (ap not (sym (kept-down g starts losses none) ∙ up)) in (
        found.0,
        (
          subst (λ (b : Bool). Contains (cond b (smallest (brings_back g) (prior g).blocked_by) []) found.0) (sym down) found.1.0,
          λ o in'. kept-part g starts losses o (found.1.1 o in'),
        ),
      )

  -- ---- any so many of some devices

  count-agree : (one other : ℕ → Bool) (osds : List ℕ) → ((osd : ℕ) → Contains osds osd → one osd ≡ other osd) → count_by one osds ≡ count_by other osds
  count-agree one other osds agree = sym (length-filter one osds) ∙ ap length (filter-agree one other osds agree) ∙ length-filter other osds

  pub any-all : (any : AnyOf) (starts losses : List ℕ) → (prior g).down ≡ true → AreWaysOf g (listed.Any any) → ((osd : ℕ) → Contains starts osd → Contains (destroyed_osds g) osd → ⊥)
      → is_down_with starts losses g ≡ not (nat_le any.least (count_by (holds (starts ++ losses)) any.osds))
  any-all any starts losses down are none =
      let is = are.down down in
      let kept : List ℕ = kept_of g starts losses in
      let same : count_by (holds kept) any.osds ≡ count_by (holds (starts ++ losses)) any.osds =
      count-agree (holds kept) (holds (starts ++ losses)) any.osds (λ osd in'.
      let waited : Contains (prior g).blocked_by osd = (filter-contains is.test (prior g).blocked_by osd (subst (λ (l : List ℕ). Contains l osd) is.are in')).0 in
      kept-held g starts losses osd ∙ ap (λ b. b && list_any (nat_eq osd) (starts ++ losses)) (one-held (prior g).blocked_by osd waited)) in
      kept-down g starts losses none ∙ twice (is_down_with kept [] g) (nat_le any.least (count_by (holds kept) any.osds)) (is.exact kept (kept-awaited g starts losses))
      ∙ ap (λ n. not (nat_le any.least n)) same
    where
      twice : (a b : Bool) → not a ≡ b → a ≡ not b
      twice a b is = grind (arith, is)

  -- ---- destroyed devices

  -- what is gone for one interval isn't down for another
  not_both : (up there : Bool) (lost first at : ℕ) → status_by up there lost first ≡ Down → is_gone (status_by up there lost at) ≡ true → ⊥
  not_both true there lost first at down gone = cc
  not_both false false lost first at down gone = cc
  not_both false true lost first at down gone = elim (cases_Bool (nat_lt at lost)) [
    | inl one ↦ true≢false (sym (rw one at gone))
    | inr other ↦ true≢false (sym (rw other at gone))
  ]

  pub none-destroyed : (set : List ℕ) (osd : ℕ) → Contains (ways g) set → Contains (destroyed_osds g) osd → Contains set osd → ⊥
  none-destroyed set osd in' gone there =
      let waited = ways-of_them set in' osd there in
      let blocking = blocked_by-IsBlocking (enough_of g.history.code) (is_by_place g.history.code) (status (incs g)) (les g) (past g) osd waited in
      let down : status (incs g) osd blocking.0.first ≡ Down = subst (λ (o : ℕ). status (incs g) o blocking.0.first ≡ Down) blocking.1.1.1 blocking.1.1.0.down in
      let found = flat_map-contains (osds_with Gone (is_by_place g.history.code) (status (incs g))) (blocking_past g) osd gone in
      let named = map-contains (λ (m : Member). m.osd) (acting_where is_gone (is_by_place g.history.code) (status (incs g)) found.0) osd found.1.1 in
      let kept = filter-contains (λ (m : Member). is_gone (status (incs g) m.osd found.0.first)) (members_of (is_by_place g.history.code) found.0.members.acting) named.0 named.1.0 in
      not_both (is_up (incs g) osd) (exists (incs g) osd) (lost_at (incs g) osd) blocking.0.first found.0.first down
      (subst (λ (o : ℕ). is_gone (status (incs g) o found.0.first) ≡ true) named.1.1 kept.1)

-- Which groups may have changed since the log was shorter.
use Rattle.pgp_shard.proofs.Common.{◌≡◌, ℕ, List, [], ◌∷◌, ◌++◌, true, false, ◌||◌, Option, Some, None, IfSome, is_none, nat_lt, length, take, option_map, refl, sym, ap, ap₂, ◌∙◌, subst, arith, option_map_or, inl, inr, cases_lt, false_from_ne_true, true_from_ne_false, true≢false, length-append, take_all, take-append-le, le-ltb, ltb-false, Entry, PgId, View, has_group, is_same_group, incs_of, view_at, AreAtPlaces, AreOwnGroupsOf, keeps, owns, marks_of, worked_of, shard_with, IsViewSince, is_newer, lacks_view, newer_in, epoch_of, is_legal, HaveChanged, SaysStill, is_among, Groups, KeptGroup, Owner}
use Rattle.std.specs.HashMap as hash
use Rattle.pgp_log.proofs.LogLemmas.{legal-induction}
use Rattle.pgp_shard.proofs.GroupsLemmas.{place-holds}
use Rattle.pgp_shard.proofs.KeptBesideLemmas.{has-still-there}
use Rattle.pgp_shard.proofs.KeptLemmas.{view-whole}
use Rattle.pgp_shard.proofs.MarksLemmas.{ids-once, passes-at, pg_of}
use Rattle.pgp_shard.proofs.OwnGroupsLemmas.{found-own, no-view}
use Rattle.pgp_shard.proofs.PassingLemmas.{none-passing, passing-once}
use Rattle.pgp_shard.proofs.WorkedLemmas.{found-kept, passes-absent, worked-absent, worked-at}

-- the log has a group that a front of it has
front-has : (log : List Entry) → is_legal log ≡ true → (n : ℕ) (pg : PgId) → has_group (incs_of (take n log)) pg ≡ true → has_group (incs_of log) pg ≡ true
front-has = legal-induction (λ log. (n : ℕ) (pg : PgId) → has_group (incs_of (take n log)) pg ≡ true → has_group (incs_of log) pg ≡ true)
    (λ n pg there. subst (λ (l : List Entry). has_group (incs_of l) pg ≡ true) (take_all n [] (omega arith)) there)
    (λ log new fit before n pg there. elim (cases_lt (length log) n) [
      | inl past ↦ subst (λ (l : List Entry). has_group (incs_of l) pg ≡ true) (take_all n (log ++ new ∷ []) (omega (arith, past, length-append log (new ∷ [])))) there
      | inr within ↦ has-still-there log new pg fit (before n pg (subst (λ (l : List Entry). has_group (incs_of l) pg ≡ true) (take-append-le n log (new ∷ []) within) there))
    ])

-- ---- a group that isn't newer

-- neither the log nor its front has the group
still-absent : (log : List Entry) (n : ℕ) (pg : PgId) → is_legal log ≡ true → has_group (incs_of log) pg ≡ false → SaysStill n log pg
still-absent log n pg legal absent =
    let before : has_group (incs_of (take n log)) pg ≡ false
    = false_from_ne_true (has_group (incs_of (take n log)) pg) (λ there. true≢false (sym (front-has log legal n pg there) ∙ absent)) in
    sym (no-view log pg absent) ∙ ap (option_map (view_at (length log) (epoch_of log))) (no-view (take n log) pg before)

-- its view was worked out by no more entries than the front has
still-kept : (log : List Entry) (n : ℕ) (pg : PgId) (view : Option View) → IfSome view (IsViewSince log pg) → option_map_or (λ v. nat_lt n v.count) view true ≡ false → SaysStill n log pg
still-kept log n pg None since old = absurd (true≢false old)
still-kept log n pg (Some view) since old =
    view-whole log pg view since ∙ sym (ap (option_map (view_at (length log) (epoch_of log))) (since n (ltb-false n view.count old)))

says-still : (owner : Owner) (log : List Entry) (groups : Groups) (n : ℕ) (pg : PgId) → AreOwnGroupsOf owner log groups → owns owner pg ≡ true → is_among pg (newer_in n groups.kept.items) ≡ false → SaysStill n log pg
says-still owner log groups n pg is own old = by_place (hash.get is_same_group groups.places pg) refl where
  by_place : (found : Option ℕ) → hash.get is_same_group groups.places pg ≡ found → SaysStill n log pg
  by_place None none = still-absent log n pg is.legal (sym (found-own owner log groups pg None none is own))
  by_place (Some place) there =
      let are : AreAtPlaces groups = is.groups_are.places_are in
      let found = found-kept groups pg place are there in
      let kept : KeptGroup = found.0 in
      still-kept log n pg kept.view
      (subst (λ (id : PgId). IfSome kept.view (IsViewSince log id)) (place-holds groups pg place kept are there found.1) (is.groups_are.each.each place kept found.1).view_is)
      (sym (passes-at (is_newer n) groups pg place kept are there found.1) ∙ old)

-- ---- the groups that are newer

newer-by : (n : ℕ) (view : Option View) → option_map_or (λ v. nat_lt n v.count) view true ≡ (is_none view || nat_lt n (option_map_or (λ v. v.count) view 0))
newer-by n None = refl
newer-by n (Some view) = refl

newer-each : (groups : Groups) (n : ℕ) (pg : PgId) → AreAtPlaces groups → is_among pg (newer_in n groups.kept.items) ≡ (is_among pg (marks_of groups) || nat_lt n (worked_of groups pg))
newer-each groups n pg are = by_place (hash.get is_same_group groups.places pg) refl where
  by_place : (found : Option ℕ) → hash.get is_same_group groups.places pg ≡ found → is_among pg (newer_in n groups.kept.items) ≡ (is_among pg (marks_of groups) || nat_lt n (worked_of groups pg))
  by_place None none =
      passes-absent (is_newer n) groups pg are none
      ∙ sym (ap₂ (λ a w. a || nat_lt n w) (passes-absent lacks_view groups pg are none) (worked-absent groups pg are none) ∙ le-ltb n 0 (omega arith))
  by_place (Some place) there =
      let found = found-kept groups pg place are there in
      let kept : KeptGroup = found.0 in
      passes-at (is_newer n) groups pg place kept are there found.1 ∙ newer-by n kept.view
      ∙ sym (ap₂ (λ a w. a || nat_lt n w) (passes-at lacks_view groups pg place kept are there found.1) (worked-at groups pg place kept are there found.1))

newer-kept : (groups : Groups) (n : ℕ) (pg : PgId) → is_among pg (newer_in n groups.kept.items) ≡ true → keeps pg groups ≡ true
newer-kept groups n pg newer = true_from_ne_false (keeps pg groups) (λ none.
    true≢false (sym newer ∙ none-passing (is_newer n) pg_of (is_same_group pg) groups.kept.items none))

pub have-changed : (owner : Owner) (log : List Entry) (groups : Groups) (n : ℕ) → AreOwnGroupsOf owner log groups → HaveChanged n (shard_with owner log (Some groups)) (newer_in n groups.kept.items)
have-changed owner log groups n is = record {
  each = λ pg. newer-each groups n pg is.groups_are.places_are;
  once = passing-once (is_newer n) pg_of is_same_group groups.kept.items (ids-once groups is.groups_are.places_are);
  own = λ pg newer. sym (is.own_are pg) ∙ newer-kept groups n pg newer;
  others = λ pg own old. says-still owner log groups n pg is own old;
}

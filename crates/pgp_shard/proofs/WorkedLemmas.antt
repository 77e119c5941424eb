-- When groups were last worked out, as the groups change.
use Rattle.pgp_shard.proofs.Common.{◌≡◌, ℕ, zero, suc, List, [], ◌∷◌, ◌++◌, Bool, true, false, ◌&&◌, not, cond, Option, Some, None, is_none, option_map, set, refl, sym, ap, ap₂, ◌∙◌, arith, filter, and-false, slice_get, option_map_or, inl, inr, cases_eq, false_from_ne_true, true≢false, All-head, All-tail, none-some, slice_get-map, slice_get_within, get-set_other, get-set_same, none-at, none-each, View, PgId, is_same_group, AreAtPlaces, KeepsMarks, RenewsMarks, worked_of, marks_of, AreAllMarked, IsWorkedOut, ids_of, lacks_view, marks_in, worked_count, worked_in, is_among, worked_at, Groups, KeptGroup}
use Rattle.std.specs.HashMap as hash
use Rattle.pgp_log.proofs.TakeLemmas.{same-self}
use Rattle.pgp_shard.proofs.GroupsLemmas.{missing-group, other-group, place-holds}
use Rattle.pgp_shard.proofs.MarksLemmas.{marked-at, pg_of}
use Rattle.pgp_shard.proofs.PassingLemmas.{any-passing}

choice : (b : Bool) (x y z : ℕ) → (b ≡ true → x ≡ y) → cond b x z ≡ cond b y z
choice true x y z same = same refl
choice false x y z same = refl

both : (b : Bool) (x y z : ℕ) → x ≡ z → y ≡ z → cond b x y ≡ z
both true x y z one two = one
both false x y z one two = two

-- a group that has to be worked out has no count
uncounted : (view : Option View) → is_none view ≡ true → option_map_or (λ v. v.count) view 0 ≡ 0
uncounted None lacks = refl
uncounted (Some view) lacks = cc

-- where each group is marked, so it is of all
pub none-worked : (groups : List KeptGroup) → AreAllMarked groups → (pg : PgId) → worked_at (worked_in groups) pg ≡ 0
none-worked [] all pg = refl
none-worked (kept ∷ groups) all pg =
    both (is_same_group pg kept.pg) (worked_count kept) (worked_at (worked_in groups) pg) 0
    (uncounted kept.view (All-head (λ (k : KeptGroup). lacks_view k ≡ true) kept groups all))
    (none-worked groups (All-tail (λ (k : KeptGroup). lacks_view k ≡ true) kept groups all) pg)

-- ---- one of the groups changes, or one comes

worked-set : (xs : List KeptGroup) (i : ℕ) (old new : KeptGroup) (pg : PgId) → slice_get xs i ≡ Some old → new.pg ≡ old.pg → (is_same_group pg old.pg ≡ true → worked_count new ≡ worked_count old)
    → worked_at (worked_in (set xs i new)) pg ≡ worked_at (worked_in xs) pg
worked-set [] i old new pg at same keeps = refl
worked-set (x ∷ xs) zero old new pg at same keeps =
    let here : x ≡ old = cc in
    ap (λ (p : PgId). cond (is_same_group pg p) (worked_count new) (worked_at (worked_in xs) pg)) same
    ∙ choice (is_same_group pg old.pg) (worked_count new) (worked_count old) (worked_at (worked_in xs) pg) keeps
    ∙ ap (λ (k : KeptGroup). cond (is_same_group pg k.pg) (worked_count k) (worked_at (worked_in xs) pg)) (sym here)
worked-set (x ∷ xs) (suc i) old new pg at same keeps =
    ap (λ n. cond (is_same_group pg x.pg) (worked_count x) n) (worked-set xs i old new pg at same keeps)

-- the new one isn't marked, where its group isn't among the marks
unmarked-new : (xs : List KeptGroup) (i : ℕ) (old new : KeptGroup) (pg : PgId) → slice_get xs i ≡ Some old → is_same_group pg new.pg ≡ true → is_among pg (marks_in (set xs i new)) ≡ false
    → lacks_view new ≡ false
unmarked-new xs i old new pg at same unmarked = false_from_ne_true (lacks_view new) (λ lacks.
    true≢false (sym (ap (λ b. b && is_same_group pg new.pg) lacks ∙ same)
    ∙ none-at (λ k. lacks_view k && is_same_group pg (pg_of k)) (set xs i new) i new (sym (any-passing lacks_view pg_of (is_same_group pg) (set xs i new)) ∙ unmarked)
    (get-set_same xs i new (slice_get_within xs i old at))))

-- a group that isn't marked was last worked out when it was before
pub keeps-set : (xs : List KeptGroup) (i : ℕ) (old new : KeptGroup) (pg : PgId) → slice_get xs i ≡ Some old → new.pg ≡ old.pg → (lacks_view new ≡ false → new.view ≡ old.view)
    → is_among pg (marks_in (set xs i new)) ≡ false → worked_at (worked_in (set xs i new)) pg ≡ worked_at (worked_in xs) pg
keeps-set xs i old new pg at same stays unmarked =
    worked-set xs i old new pg at same (λ is.
    ap (λ (v : Option View). option_map_or (λ w. w.count) v 0) (stays (unmarked-new xs i old new pg at (ap (is_same_group pg) same ∙ is) unmarked)))

pub worked-push : (xs : List KeptGroup) (kept : KeptGroup) (pg : PgId) → lacks_view kept ≡ true → worked_at (worked_in (xs ++ kept ∷ [])) pg ≡ worked_at (worked_in xs) pg
worked-push [] kept pg lacks = both (is_same_group pg kept.pg) (worked_count kept) 0 0 (uncounted kept.view lacks) refl
worked-push (x ∷ xs) kept pg lacks = ap (λ n. cond (is_same_group pg x.pg) (worked_count x) n) (worked-push xs kept pg lacks)

-- ---- step by step

pub keeps-none : (groups : Groups) → KeepsMarks groups groups
keeps-none groups = record { marks = λ pg was. was; worked = λ pg unmarked. refl }

pub keeps-on : (first before after : Groups) → KeepsMarks first before → KeepsMarks before after → KeepsMarks first after
keeps-on first before after one two = record {
  marks = λ pg was. two.marks pg (one.marks pg was);
  worked = λ pg unmarked. two.worked pg unmarked
      ∙ one.worked pg (false_from_ne_true (is_among pg (marks_of before)) (λ was. true≢false (sym (two.marks pg was) ∙ unmarked)));
}

still : (b : Bool) (count n : ℕ) → n ≡ cond (b && not b) count n
still true count n = refl
still false count n = refl

pub renews-none : (count : ℕ) (groups : Groups) → RenewsMarks count groups groups
renews-none count groups = record {
  marks = λ pg is. is;
  worked = λ pg. still (is_among pg (marks_of groups)) count (worked_of groups pg);
}

worked-twice : (a b c : Bool) (count x y z : ℕ) → (b ≡ true → a ≡ true) → (c ≡ true → b ≡ true) → y ≡ cond (a && not b) count x → z ≡ cond (b && not c) count y → z ≡ cond (a && not c) count x
worked-twice true true true count x y z was is one two = two ∙ one
worked-twice true true false count x y z was is one two = two
worked-twice true false true count x y z was is one two = absurd (true≢false (sym (is refl)))
worked-twice true false false count x y z was is one two = two ∙ one
worked-twice false true c count x y z was is one two = absurd (true≢false (sym (was refl)))
worked-twice false false true count x y z was is one two = absurd (true≢false (sym (is refl)))
worked-twice false false false count x y z was is one two = two ∙ one

pub renews-more : (count : ℕ) (first before after : Groups) → RenewsMarks count first before → RenewsMarks count before after → RenewsMarks count first after
renews-more count first before after one two = record {
  marks = λ pg is. one.marks pg (two.marks pg is);
  worked = λ pg.
      worked-twice (is_among pg (marks_of first)) (is_among pg (marks_of before)) (is_among pg (marks_of after)) count (worked_of first pg) (worked_of before pg) (worked_of after pg)
      (one.marks pg) (two.marks pg) (one.worked pg) (two.worked pg);
}

-- ---- a group at its place, and one that has none

pub found-kept : (groups : Groups) (pg : PgId) (place : ℕ) → AreAtPlaces groups → hash.get is_same_group groups.places pg ≡ Some place
    → (kept : KeptGroup) × (slice_get groups.kept.items place ≡ Some kept)
found-kept groups pg place are is = at (slice_get groups.kept.items place) refl where
  at : (found : Option KeptGroup) → slice_get groups.kept.items place ≡ found → (kept : KeptGroup) × (slice_get groups.kept.items place ≡ Some kept)
  at None none = absurd (none-some pg (sym (slice_get-map pg_of groups.kept.items place ∙ ap (option_map pg_of) none) ∙ are.there pg place is))
  at (Some kept) there = (kept, there)

worked-one : (xs : List KeptGroup) (i : ℕ) (kept : KeptGroup) (pg : PgId) → slice_get xs i ≡ Some kept → is_same_group pg kept.pg ≡ true
    → ((j : ℕ) (other : KeptGroup) → (j ≡ i → ⊥) → slice_get xs j ≡ Some other → is_same_group pg other.pg ≡ false) → worked_at (worked_in xs) pg ≡ worked_count kept
worked-one [] i kept pg at same others = cc
worked-one (x ∷ xs) zero kept pg at same others =
    let here : x ≡ kept = cc in
    ap (λ (k : KeptGroup). cond (is_same_group pg k.pg) (worked_count k) (worked_at (worked_in xs) pg)) here
    ∙ ap (λ b. cond b (worked_count kept) (worked_at (worked_in xs) pg)) same
worked-one (x ∷ xs) (suc i) kept pg at same others =
    ap (λ b. cond b (worked_count x) (worked_at (worked_in xs) pg)) (others 0 x (λ e. absurd (omega (arith, e))) refl)
    ∙ worked-one xs i kept pg at same (λ j other differs found. others (suc j) other (λ e. differs (omega (arith, e))) found)

worked-none : (xs : List KeptGroup) (pg : PgId) → ((j : ℕ) (other : KeptGroup) → slice_get xs j ≡ Some other → is_same_group pg other.pg ≡ false) → worked_at (worked_in xs) pg ≡ 0
worked-none [] pg others = refl
worked-none (x ∷ xs) pg others =
    ap (λ b. cond b (worked_count x) (worked_at (worked_in xs) pg)) (others 0 x refl)
    ∙ worked-none xs pg (λ j other found. others (suc j) other found)

-- the one of a group at its place
pub worked-at : (groups : Groups) (pg : PgId) (place : ℕ) (kept : KeptGroup) → AreAtPlaces groups → hash.get is_same_group groups.places pg ≡ Some place → slice_get groups.kept.items place ≡ Some kept
    → worked_of groups pg ≡ worked_count kept
worked-at groups pg place kept are is at =
    worked-one groups.kept.items place kept pg at (ap (is_same_group pg) (place-holds groups pg place kept are is at) ∙ same-self pg)
    (λ j other differs found. other-group groups pg place j other are is found differs)

pub worked-absent : (groups : Groups) (pg : PgId) → AreAtPlaces groups → hash.get is_same_group groups.places pg ≡ None → worked_of groups pg ≡ 0
worked-absent groups pg are none = worked-none groups.kept.items pg (λ j other found. missing-group groups pg j other are none found)

-- a group that isn't kept passes no test
pub passes-absent : (m : KeptGroup → Bool) (groups : Groups) (pg : PgId) → AreAtPlaces groups → hash.get is_same_group groups.places pg ≡ None → is_among pg (ids_of (filter m groups.kept.items)) ≡ false
passes-absent m groups pg are none =
    any-passing m pg_of (is_same_group pg) groups.kept.items
    ∙ none-each (λ k. m k && is_same_group pg (pg_of k)) groups.kept.items
    (λ j other found. ap (λ b. m other && b) (missing-group groups pg j other are none found) ∙ and-false (m other))

-- ---- the group at a place is worked out, or was to be

-- what becomes of the group, where one of the groups may be worked out by this many entries
record Renews (count : ℕ) (old new : Groups) (pg : PgId) : Type 0 where
  marks : is_among pg (marks_of new) ≡ true → is_among pg (marks_of old) ≡ true
  worked : worked_of new pg ≡ cond (is_among pg (marks_of old) && not (is_among pg (marks_of new))) count (worked_of old pg)

-- it isn't kept
renews-absent : (count : ℕ) (old new : Groups) (pg : PgId) → AreAtPlaces old → AreAtPlaces new → hash.get is_same_group old.places pg ≡ None → hash.get is_same_group new.places pg ≡ None → Renews count old new pg
renews-absent count old new pg were are was now =
    let unmarked : is_among pg (marks_of old) ≡ false = passes-absent lacks_view old pg were was in
    record {
      marks = λ is. absurd (true≢false (sym is ∙ passes-absent lacks_view new pg are now));
      worked = worked-absent new pg are now
          ∙ sym (ap (λ b. cond (b && not (is_among pg (marks_of new))) count (worked_of old pg)) unmarked ∙ worked-absent old pg were was);
    }

-- it is kept at this place, where it may be another now
renews-there : (count : ℕ) (old new : Groups) (pg : PgId) (i : ℕ) (one two : KeptGroup) → AreAtPlaces old → AreAtPlaces new → hash.get is_same_group old.places pg ≡ Some i → hash.get is_same_group new.places pg ≡ Some i
    → slice_get old.kept.items i ≡ Some one → slice_get new.kept.items i ≡ Some two → IsWorkedOut count one two → Renews count old new pg
renews-there count old new pg i one two were are was now first second goes =
    let before : is_among pg (marks_of old) ≡ lacks_view one = marked-at old pg i one were was first in
    let after : is_among pg (marks_of new) ≡ lacks_view two = marked-at new pg i two are now second in
    record {
      marks = λ is. before ∙ goes.0 (sym after ∙ is);
      worked = worked-at new pg i two are now second ∙ goes.1
          ∙ ap₂ (λ a b. cond (a && not b) count (worked_count one)) (sym before) (sym after)
          ∙ ap (λ n. cond (is_among pg (marks_of old) && not (is_among pg (marks_of new))) count n) (sym (worked-at old pg i one were was first));
    }

pub renews-at : (count : ℕ) (old new : Groups) (place : ℕ) (kept after : KeptGroup) → AreAtPlaces old → AreAtPlaces new → slice_get old.kept.items place ≡ Some kept
    → new.kept.items ≡ set old.kept.items place after → new.places ≡ old.places → IsWorkedOut count kept after → RenewsMarks count old new
renews-at count old new place kept after were are at items same out = record {
  marks = λ pg. (each pg (hash.get is_same_group old.places pg) refl).marks;
  worked = λ pg. (each pg (hash.get is_same_group old.places pg) refl).worked;
} where
  each : (pg : PgId) (found : Option ℕ) → hash.get is_same_group old.places pg ≡ found → Renews count old new pg
  each pg None none = renews-absent count old new pg were are none (rw same none)
  each pg (Some i) is =
      let one = found-kept old pg i were is in
      elim (cases_eq i place) [
        | inl here ↦
            let first : slice_get old.kept.items i ≡ Some kept = ap (slice_get old.kept.items) here ∙ at in
            renews-there count old new pg i kept after were are is (rw same is) first
            (ap (λ (l : List KeptGroup). slice_get l i) items ∙ (ap (slice_get (set old.kept.items place after)) here ∙ get-set_same old.kept.items place after (slice_get_within old.kept.items place kept at))) out
        | inr other ↦
            renews-there count old new pg i one.0 one.0 were are is (rw same is) one.1
            (ap (λ (l : List KeptGroup). slice_get l i) items ∙ get-set_other old.kept.items place i after other ∙ one.1)
            ((λ lacks. lacks), still (lacks_view one.0) count (worked_count one.0))
      ]

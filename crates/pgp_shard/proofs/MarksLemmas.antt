-- Which groups have to be worked out anew, as the groups change.
use Rattle.pgp_shard.proofs.Common.{◌≡◌, ℕ, zero, suc, ◌+◌, ◌-◌, ◌<◌, ◌≤◌, List, [], ◌∷◌, ◌++◌, Bool, true, false, ◌&&◌, ◌||◌, Option, Some, None, is_some, is_none, Result, Ok, Err, OnOk, length, drop, set, slice_get, refl, sym, ap, ◌∙◌, arith, eq-eqb, length-append, filter, list_any, nat_eq, cases_Bool, false_from_ne_true, or_parts, true≢false, nat_tests, All-head, All-tail, list_any-append, same_Some, and-false, and-true, and_from, and_parts, inl, inr, or-false, or-true, Entry, Incremental, View, PgId, or3_parts, none-each, has_repeat, is_same_group, changes_pool, changes_temp, is_touched, moves_all, AreAtPlaces, marks_of, AreAllMarked, ids_of, lacks_view, marks_in, is_among, without_group, Groups, KeptGroup, same_group}
use Rattle.std.proofs.Math.ListN.{drop_of_length-le}
use Rattle.std.specs.HashMap as hash
use Rattle.pgp_ids.specs.declared.entry.Entry.TheVariants as entry
use Rattle.pgp_log.proofs.TakeLemmas.{same-self}
use Rattle.pgp_shard.proofs.GroupsLemmas.{missing-group, other-group, place-holds}
use Rattle.pgp_shard.proofs.PassingLemmas.{all-other, any-passing, drop-few, drop-more, passing-once, unmarked}

abbrev pub pg_of : KeptGroup → PgId
pg_of kept = kept.pg

-- ---- one of the groups changes

any-set : {X : Type 0} (p : X → Bool) (xs : List X) (i : ℕ) (old new : X) → slice_get xs i ≡ Some old → p new ≡ p old → list_any p (set xs i new) ≡ list_any p xs
any-set p [] i old new at same = refl
any-set p (x ∷ xs) zero old new at same = grind (arith, nat_tests)
any-set p (x ∷ xs) (suc i) old new at same = grind (arith, nat_tests, any-set p xs i old new at same)

-- another group is marked where it was before
pub marks-set : (xs : List KeptGroup) (i : ℕ) (old new : KeptGroup) (pg : PgId) → slice_get xs i ≡ Some old → new.pg ≡ old.pg → (is_same_group pg old.pg ≡ true → new.view ≡ old.view)
    → is_among pg (marks_in (set xs i new)) ≡ is_among pg (marks_in xs)
marks-set xs i old new pg at same keeps =
    any-passing lacks_view pg_of (is_same_group pg) (set xs i new)
    ∙ any-set (λ k. lacks_view k && is_same_group pg k.pg) xs i old new at (ap (λ (p : PgId). lacks_view new && is_same_group pg p) same ∙ alike (is_same_group pg old.pg) refl)
    ∙ sym (any-passing lacks_view pg_of (is_same_group pg) xs)
  where
    alike : (b : Bool) → is_same_group pg old.pg ≡ b → (lacks_view new && is_same_group pg old.pg) ≡ (lacks_view old && is_same_group pg old.pg)
    alike true is = ap (λ (v : Option View). is_none v && is_same_group pg old.pg) (keeps is)
    alike false is = ap (λ b. lacks_view new && b) is ∙ and-false (lacks_view new) ∙ sym (ap (λ b. lacks_view old && b) is ∙ and-false (lacks_view old))

-- what was marked is marked still, where a marked one stays marked
any-set-still : {X : Type 0} (p : X → Bool) (xs : List X) (i : ℕ) (old new : X) → slice_get xs i ≡ Some old → (p old ≡ true → p new ≡ true) → list_any p xs ≡ true → list_any p (set xs i new) ≡ true
any-set-still p [] i old new at goes some = some
any-set-still p (x ∷ xs) zero old new at goes some =
    let here : x ≡ old = cc in
    elim (cases_Bool (p x)) [
      | inl passes ↦ ap (λ b. b || list_any p xs) (goes (ap p (sym here) ∙ passes))
      | inr fails ↦ ap (λ b. p new || b) (sym (ap (λ b. b || list_any p xs) fails) ∙ some) ∙ or-true (p new)
    ]
any-set-still p (x ∷ xs) (suc i) old new at goes some =
    elim (cases_Bool (p x)) [
      | inl passes ↦ ap (λ b. b || list_any p (set xs i new)) passes
      | inr fails ↦ ap (λ b. p x || b) (any-set-still p xs i old new at goes (sym (ap (λ b. b || list_any p xs) fails) ∙ some)) ∙ or-true (p x)
    ]

pub marks-set-still : (xs : List KeptGroup) (i : ℕ) (old new : KeptGroup) (pg : PgId) → slice_get xs i ≡ Some old → new.pg ≡ old.pg → (lacks_view old ≡ true → lacks_view new ≡ true)
    → is_among pg (marks_in xs) ≡ true → is_among pg (marks_in (set xs i new)) ≡ true
marks-set-still xs i old new pg at same stays was =
    any-passing lacks_view pg_of (is_same_group pg) (set xs i new)
    ∙ any-set-still (λ k. lacks_view k && is_same_group pg k.pg) xs i old new at (λ both.
    let parts = and_parts (lacks_view old) (is_same_group pg old.pg) both in
    and_from (lacks_view new) (is_same_group pg new.pg) (stays parts.0) (ap (is_same_group pg) same ∙ parts.1))
    (sym (any-passing lacks_view pg_of (is_same_group pg) xs) ∙ was)

pub marks-push-still : (xs : List KeptGroup) (kept : KeptGroup) (pg : PgId) → is_among pg (marks_in xs) ≡ true → is_among pg (marks_in (xs ++ kept ∷ [])) ≡ true
marks-push-still xs kept pg was =
    any-passing lacks_view pg_of (is_same_group pg) (xs ++ kept ∷ [])
    ∙ list_any-append (λ k. lacks_view k && is_same_group pg k.pg) xs (kept ∷ [])
    ∙ ap (λ b. b || list_any (λ k. lacks_view k && is_same_group pg k.pg) (kept ∷ [])) (sym (any-passing lacks_view pg_of (is_same_group pg) xs) ∙ was)

-- another group is marked where it was before one comes
pub marks-push : (xs : List KeptGroup) (kept : KeptGroup) (pg : PgId) → is_same_group pg kept.pg ≡ false → is_among pg (marks_in (xs ++ kept ∷ [])) ≡ is_among pg (marks_in xs)
marks-push xs kept pg differs =
    any-passing lacks_view pg_of (is_same_group pg) (xs ++ kept ∷ [])
    ∙ list_any-append (λ k. lacks_view k && is_same_group pg k.pg) xs (kept ∷ [])
    ∙ ap (λ b. list_any (λ k. lacks_view k && is_same_group pg k.pg) xs || (b || false)) (ap (λ b. lacks_view kept && b) differs ∙ and-false (lacks_view kept))
    ∙ or-false (list_any (λ k. lacks_view k && is_same_group pg k.pg) xs)
    ∙ sym (any-passing lacks_view pg_of (is_same_group pg) xs)

-- ---- a group is asked

pub unmarked_by : (view : Option View) → is_some view ≡ true → is_none view ≡ false
unmarked_by view is = grind arith

pub marks-asked : (old : Groups) (pg : PgId) (place : ℕ) (kept after : KeptGroup) → AreAtPlaces old → hash.get is_same_group old.places pg ≡ Some place → slice_get old.kept.items place ≡ Some kept
    → is_some after.view ≡ true → marks_in (set old.kept.items place after) ≡ without_group pg (marks_of old)
marks-asked old pg place kept after are is at there =
    unmarked lacks_view pg_of (is_same_group pg) old.kept.items place kept after at
    (ap (is_same_group pg) (place-holds old pg place kept are is at) ∙ same-self pg) (unmarked_by after.view there)
    (λ j other differs found. other-group old pg place j other are is found differs)

pub marks-elsewhere : (groups : Groups) (pg : PgId) → AreAtPlaces groups → hash.get is_same_group groups.places pg ≡ None → marks_of groups ≡ without_group pg (marks_of groups)
marks-elsewhere groups pg are none = all-other lacks_view pg_of (is_same_group pg) groups.kept.items (λ j kept at. missing-group groups pg j kept are none at)

-- only the one at this place may pass
any-of-one : {X : Type 0} (p : X → Bool) (xs : List X) (i : ℕ) (x : X) → slice_get xs i ≡ Some x → ((j : ℕ) (y : X) → (j ≡ i → ⊥) → slice_get xs j ≡ Some y → p y ≡ false)
    → list_any p xs ≡ p x
any-of-one p [] i x at others = cc
any-of-one p (y ∷ xs) zero x at others =
    let here : y ≡ x = cc in
    ap (λ b. p y || b) (none-each p xs (λ j z found. others (suc j) z (λ e. absurd (omega (arith, e))) found)) ∙ or-false (p y) ∙ ap p here
any-of-one p (y ∷ xs) (suc i) x at others =
    ap (λ b. b || list_any p xs) (others 0 y (λ e. absurd (omega (arith, e))) refl)
    ∙ any-of-one p xs i x at (λ j z differs found. others (suc j) z (λ e. differs (omega (arith, e))) found)

-- a group is among those that pass a test just where what is kept of it passes
pub passes-at : (m : KeptGroup → Bool) (groups : Groups) (pg : PgId) (place : ℕ) (kept : KeptGroup) → AreAtPlaces groups → hash.get is_same_group groups.places pg ≡ Some place
    → slice_get groups.kept.items place ≡ Some kept → is_among pg (ids_of (filter m groups.kept.items)) ≡ m kept
passes-at m groups pg place kept are is at =
    any-passing m pg_of (is_same_group pg) groups.kept.items
    ∙ any-of-one (λ k. m k && is_same_group pg (pg_of k)) groups.kept.items place kept at
    (λ j other differs found. ap (λ b. m other && b) (other-group groups pg place j other are is found differs) ∙ and-false (m other))
    ∙ ap (λ b. m kept && b) (ap (is_same_group pg) (place-holds groups pg place kept are is at) ∙ same-self pg) ∙ and-true (m kept)

pub marked-at : (groups : Groups) (pg : PgId) (place : ℕ) (kept : KeptGroup) → AreAtPlaces groups → hash.get is_same_group groups.places pg ≡ Some place → slice_get groups.kept.items place ≡ Some kept
    → is_among pg (marks_of groups) ≡ lacks_view kept
marked-at = passes-at lacks_view

-- ---- marked groups are worked out, as many as may be

-- of these groups, which were marked, all but the first are marked still
pub record IsRenewing (max i more left : ℕ) (was now : List PgId) : Type 0 where
  pub marks : now ≡ drop max was
  pub room : more ≡ max - length was
  pub still : left ≡ length now
  pub few : left ≤ i

-- none of them so far
pub renewing-starts : (max : ℕ) → IsRenewing max 0 max 0 [] []
renewing-starts max = record { marks = sym (drop_of_length-le [] (omega arith)); room = omega arith; still = refl; few = omega arith }

-- a group that isn't marked
pub renewing-passes : (max i more left : ℕ) (was now : List PgId) → IsRenewing max i more left was now → IsRenewing max (i + 1) more left was now
renewing-passes max i more left was now is = record { marks = is.marks; room = is.room; still = is.still; few = omega (arith, is.few) }

-- a marked group, where no more may be worked out
pub renewing-leaves : (max i more left : ℕ) (was now : List PgId) (pg : PgId) → more ≡ 0 → IsRenewing max i more left was now → IsRenewing max (i + 1) more (left + 1) (was ++ pg ∷ []) (now ++ pg ∷ [])
renewing-leaves max i more left was now pg none is = record {
  marks = ap (λ (l : List PgId). l ++ pg ∷ []) is.marks ∙ sym (drop-more max was pg (omega (arith, none, is.room)));
  room = omega (arith, none, is.room, length-append was (pg ∷ []));
  still = omega (arith, is.still, length-append now (pg ∷ []));
  few = omega (arith, is.few);
}

-- a marked group is worked out
pub renewing-renews : (max i more left : ℕ) (was now : List PgId) (pg : PgId) → 0 < more → IsRenewing max i more left was now → IsRenewing max (i + 1) (more - 1) left (was ++ pg ∷ []) now
renewing-renews max i more left was now pg some is = record {
  marks = is.marks ∙ sym (drop-few max was pg (omega (arith, some, is.room)));
  room = omega (arith, some, is.room, length-append was (pg ∷ []));
  still = is.still;
  few = omega (arith, is.few);
}

-- one that is marked is among the marks
pub some-marked : (groups : List KeptGroup) (i : ℕ) (kept : KeptGroup) → slice_get groups i ≡ Some kept → lacks_view kept ≡ true → 0 < length (marks_in groups)
some-marked [] i kept at marked = cc
some-marked (first ∷ groups) zero kept at marked = let here : first ≡ kept = cc in rw (ap lacks_view here ∙ marked) (omega arith)
some-marked (first ∷ groups) (suc i) kept at marked = grind (arith, nat_tests, some-marked groups i kept at marked, cases_Bool (lacks_view first))

-- ---- each group is marked

pub all-marks : (groups : List KeptGroup) → AreAllMarked groups → marks_in groups ≡ ids_of groups
all-marks [] all = refl
all-marks (kept ∷ groups) all =
    let here : lacks_view kept ≡ true = All-head (λ (k : KeptGroup). lacks_view k ≡ true) kept groups all in
    rw here (ap (λ ids. kept.pg ∷ ids) (all-marks groups (All-tail (λ (k : KeptGroup). lacks_view k ≡ true) kept groups all)))

-- ---- each group once

-- a list of which no two places have the same
no-repeat : {X : Type 0} (same : X → X → Bool) (xs : List X) → ((i j : ℕ) (x y : X) → slice_get xs i ≡ Some x → slice_get xs j ≡ Some y → same x y ≡ true → i ≡ j)
    → has_repeat same xs ≡ false
no-repeat same [] apart = refl
no-repeat same (x ∷ xs) apart =
    rw (none-each (same x) xs (λ j y there. false_from_ne_true (same x y) (λ is. omega (arith, apart 0 (suc j) x y refl there is))))
    (no-repeat same xs (λ i j y z one two is. omega (arith, apart (suc i) (suc j) y z one two is)))

-- the table says of each group one place
pub ids-once : (groups : Groups) → AreAtPlaces groups → has_repeat is_same_group (ids_of groups.kept.items) ≡ false
ids-once groups are =
    no-repeat is_same_group (ids_of groups.kept.items)
    (λ i j pg other one two is. same_Some i j (sym (are.found pg i one) ∙ ap (hash.get is_same_group groups.places) (same_group pg other is) ∙ are.found other j two))

-- and so no group is twice among the marks
pub marks-once : (groups : Groups) → AreAtPlaces groups → has_repeat is_same_group (marks_of groups) ≡ false
marks-once groups are = passing-once lacks_view pg_of is_same_group groups.kept.items (ids-once groups are)

-- ---- other groups

-- a group that isn't of this one isn't the one that is kept at its place
pub another : {P : Type 0} (pg here other : PgId) → here ≡ pg → is_same_group pg other ≡ false → is_same_group other here ≡ true → P
another pg here other same differs is =
    let e : other ≡ here = same_group other here is in absurd (true≢false (sym (ap (is_same_group pg) (e ∙ same) ∙ same-self pg) ∙ differs))

-- groups of different pools are different
pub other-pool : (pg other : PgId) → nat_eq pg.pool other.pool ≡ false → is_same_group other pg ≡ false
other-pool pg other differs = false_from_ne_true (is_same_group other pg) (λ same.
    true≢false (sym (ap (λ (p : PgId). nat_eq pg.pool p.pool) (same_group other pg same) ∙ eq-eqb pg.pool pg.pool refl) ∙ differs))

-- an incremental that doesn't touch a group doesn't make its pool
pub pool-left : (log : List Entry) (inc : Incremental) (pg : PgId) → is_touched log (entry.Inc inc) pg ≡ false → list_any (λ made. nat_eq made.id pg.pool) inc.pools ≡ false
pool-left log inc pg untouched =
    let placed = or3_parts (moves_all inc) (changes_pool inc pg.pool) (changes_temp inc pg) (or_parts (moves_all inc || changes_pool inc pg.pool || changes_temp inc pg) _ untouched).0 in
    (or_parts (list_any (λ made. nat_eq made.id pg.pool) inc.pools) _ placed.1).0

-- what holds anyhow holds where a call succeeds
pub ok-anyhow : {T E : Type 0} (r : Result T E) (P : Type 0) → P → OnOk r P
ok-anyhow (Ok x) P holds = holds
ok-anyhow (Err e) P holds = tt

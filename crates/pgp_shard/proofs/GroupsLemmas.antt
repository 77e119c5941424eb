-- Lists of groups of which one changes, or with one more, and the table of their places.
use Rattle.pgp_shard.proofs.Common.{◌≡◌, ℕ, ◌<◌, List, [], ◌∷◌, ◌++◌, Bool, true, false, ◌||◌, cond, Option, Some, None, is_some, length, get_or, set, refl, sym, ap, ◌∙◌, subst, arith, list_any, option_map, slice_get, map-set_same, false_from_ne_true, true_from_ne_false, true≢false, or-false, or-true, with_item, length-map, map-append, All-get_or, All-push, All-set, list_any-append, get_or_from_slice_get, slice_get_read, same_Some, slice_get-map, slice_get_within, none-some, get-append, get-last, none-at, none-each, Entry, PgId, is_same_group, OsdMap, AreAtPlaces, AreGroupsOf, keeps, AreAllMarked, AreRowsOf, IsKeptOf, IsRowOf, ids_of, lacks_view, is_among, Groups, KeptGroup, Row, same_group}
use Rattle.std.specs.HashMap as hash
use Rattle.pgp_log.proofs.TakeLemmas.{same-self}
use Rattle.pgp_shard.proofs.RowLemmas.{each-push, each-set, rows-push, rows-set}

-- the groups stay the same ones, where one of them is kept anew
pub ids-set : (xs : List KeptGroup) (i : ℕ) (old new : KeptGroup) → slice_get xs i ≡ Some old → new.pg ≡ old.pg → ids_of (set xs i new) ≡ ids_of xs
ids-set xs i old new at same =
    map-set_same (λ (kept : KeptGroup). kept.pg) xs i new old (same ∙ ap (λ (kept : KeptGroup). kept.pg) (sym (get_or_from_slice_get xs i old old at)))

-- ---- the table of places

pub at-places : (old groups : Groups) → groups.places ≡ old.places → ids_of groups.kept.items ≡ ids_of old.kept.items → AreRowsOf groups.rows.items groups.kept.items → AreAtPlaces old → AreAtPlaces groups
at-places old groups same ids rows are = record {
  there = λ pg place is. ap (λ (l : List PgId). slice_get l place) ids ∙ are.there pg place (rw same at is);
  found = λ pg place is. rw same (are.found pg place (ap (λ (l : List PgId). slice_get l place) (sym ids) ∙ is));
  rows = rows;
}

-- the place that the table says is one of the list
pub place-within : (groups : Groups) (pg : PgId) (place : ℕ) → AreAtPlaces groups → hash.get is_same_group groups.places pg ≡ Some place → place < length groups.kept.items
place-within groups pg place are is =
    omega (arith, slice_get_within (ids_of groups.kept.items) place pg (are.there pg place is), length-map groups.kept.items (λ (kept : KeptGroup). kept.pg))

pub kept-within : (groups : Groups) (pg : PgId) (place : ℕ) → AreAtPlaces groups → hash.get is_same_group groups.places pg ≡ Some place → place < groups.kept.len
kept-within groups pg place are is = omega (arith, place-within groups pg place are is, groups.kept.ok.0)

pub row-within : (groups : Groups) (pg : PgId) (place : ℕ) → AreAtPlaces groups → hash.get is_same_group groups.places pg ≡ Some place → place < groups.rows.len
row-within groups pg place are is = omega (arith, place-within groups pg place are is, are.rows.long, groups.rows.ok.0)

-- the group that is read there
pub kept-at : (groups : Groups) (pg : PgId) (place : ℕ) (kept : KeptGroup) → AreAtPlaces groups → hash.get is_same_group groups.places pg ≡ Some place → kept ≡ get_or groups.kept.items place kept → slice_get groups.kept.items place ≡ Some kept
kept-at groups pg place kept are is read = slice_get_read groups.kept.items (length groups.kept.items) place kept refl (place-within groups pg place are is) read

id-at : (xs : List KeptGroup) (place : ℕ) (kept : KeptGroup) → slice_get xs place ≡ Some kept → slice_get (ids_of xs) place ≡ Some kept.pg
id-at xs place kept at = slice_get-map (λ (k : KeptGroup). k.pg) xs place ∙ ap (option_map (λ (k : KeptGroup). k.pg)) at

-- and the group there is the one that was looked for
pub place-holds : (groups : Groups) (pg : PgId) (place : ℕ) (kept : KeptGroup) → AreAtPlaces groups → hash.get is_same_group groups.places pg ≡ Some place → slice_get groups.kept.items place ≡ Some kept → kept.pg ≡ pg
place-holds groups pg place kept are is at = same_Some kept.pg pg (sym (id-at groups.kept.items place kept at) ∙ are.there pg place is)

-- each of a list of marked groups is marked
pub marked-there : (xs : List KeptGroup) (place : ℕ) (kept : KeptGroup) → AreAllMarked xs → slice_get xs place ≡ Some kept → lacks_view kept ≡ true
marked-there xs place kept all at =
    subst (λ (k : KeptGroup). lacks_view k ≡ true) (get_or_from_slice_get xs place kept kept at)
    (All-get_or (λ (k : KeptGroup). lacks_view k ≡ true) xs place kept (slice_get_within xs place kept at) all)

-- another group than the one at this place
pub other-group : (groups : Groups) (pg : PgId) (place j : ℕ) (kept : KeptGroup) → AreAtPlaces groups → hash.get is_same_group groups.places pg ≡ Some place → slice_get groups.kept.items j ≡ Some kept → (j ≡ place → ⊥) → is_same_group pg kept.pg ≡ false
other-group groups pg place j kept are is at other = false_from_ne_true (is_same_group pg kept.pg) (λ same.
    other (same_Some j place (sym (are.found pg j (id-at groups.kept.items j kept at ∙ ap Some (sym (same_group pg kept.pg same)))) ∙ is)))

-- a group that isn't in the table isn't in the list
missing-id : (groups : Groups) (pg other : PgId) (j : ℕ) → AreAtPlaces groups → hash.get is_same_group groups.places pg ≡ None → slice_get (ids_of groups.kept.items) j ≡ Some other → is_same_group pg other ≡ false
missing-id groups pg other j are none at = false_from_ne_true (is_same_group pg other) (λ same.
    none-some _ (sym none ∙ are.found pg j (at ∙ ap Some (sym (same_group pg other same)))))

pub missing-group : (groups : Groups) (pg : PgId) (j : ℕ) (kept : KeptGroup) → AreAtPlaces groups → hash.get is_same_group groups.places pg ≡ None → slice_get groups.kept.items j ≡ Some kept → is_same_group pg kept.pg ≡ false
missing-group groups pg j kept are none at = missing-id groups pg kept.pg j are none (id-at groups.kept.items j kept at)

-- ---- the log grows

-- the groups stay as they are, by this map
pub groups-on : (log later : List Entry) (groups : Groups) (map : OsdMap) → ((place : ℕ) (kept : KeptGroup) → slice_get groups.kept.items place ≡ Some kept → IsKeptOf log kept → IsKeptOf later kept)
    → AreGroupsOf log groups → AreGroupsOf later (record groups { map = map })
groups-on log later groups map on are = record {
  each = record { each = λ place kept at. on place kept at (are.each.each place kept at) };
  places_are = at-places groups _ refl refl are.places_are.rows are.places_are;
  marked_are = are.marked_are;
}

-- the group at this place is another now, and its row is made anew
pub groups-anew : (log later : List Entry) (old : Groups) (place : ℕ) (kept after : KeptGroup) (row : Row) (worked : Bool) → slice_get old.kept.items place ≡ Some kept
    → after.pg ≡ kept.pg → IsRowOf row after → (worked ≡ false → (old.some_worked_out ≡ false) × (lacks_view after ≡ true)) → (IsKeptOf log kept → IsKeptOf later after)
    → ((j : ℕ) (other : KeptGroup) → (j ≡ place → ⊥) → slice_get old.kept.items j ≡ Some other → IsKeptOf log other → IsKeptOf later other)
    → AreGroupsOf log old → AreGroupsOf later (record old { rows = with_item old.rows place row; kept = with_item old.kept place after; some_worked_out = worked })
groups-anew log later old place kept after row worked at same shown marked takes others are =
    let within : place < length old.kept.items = slice_get_within old.kept.items place kept at in
    record {
      each = record {
        each = each-set (λ j z. IsKeptOf later z) old.kept.items place after within (takes (are.each.each place kept at)) (λ j z differs there. others j z differs there (are.each.each j z there));
      };
      places_are = at-places old _ refl (ids-set old.kept.items place kept after at same) (rows-set old.rows.items old.kept.items place row after within shown are.places_are.rows) are.places_are;
      marked_are = λ none. All-set (λ (k : KeptGroup). lacks_view k ≡ true) old.kept.items place after (marked none).1 (are.marked_are (marked none).0);
    }

-- ---- a group comes

ids-push : (xs : List KeptGroup) (kept : KeptGroup) → ids_of (xs ++ kept ∷ []) ≡ ids_of xs ++ kept.pg ∷ []
ids-push xs kept = map-append (λ (k : KeptGroup). k.pg) xs (kept ∷ [])

there-push : (ids : List PgId) (pg : PgId) (old : PgId → Option ℕ) → ((q : PgId) (place : ℕ) → old q ≡ Some place → slice_get ids place ≡ Some q)
    → (q : PgId) (place : ℕ) (same : Bool) → is_same_group pg q ≡ same → cond same (Some (length ids)) (old q) ≡ Some place → slice_get (ids ++ pg ∷ []) place ≡ Some q
there-push ids pg old are q place true same is =
    ap (slice_get (ids ++ pg ∷ [])) (sym (same_Some (length ids) place is)) ∙ get-last ids pg ∙ ap Some (same_group pg q same)
there-push ids pg old are q place false same is =
    let at : slice_get ids place ≡ Some q = are q place is in get-append ids (pg ∷ []) place (slice_get_within ids place q at) ∙ at

found-push : (ids : List PgId) (pg : PgId) (old : PgId → Option ℕ) → is_some (old pg) ≡ false → ((q : PgId) (place : ℕ) → slice_get ids place ≡ Some q → old q ≡ Some place)
    → (q : PgId) (place : ℕ) → slice_get (ids ++ pg ∷ []) place ≡ Some q → cond (is_same_group pg q) (Some (length ids)) (old q) ≡ Some place
found-push ids pg old absent are q place at =
    each-push (λ n q. cond (is_same_group pg q) (Some (length ids)) (old q) ≡ Some n) ids pg (λ n q was. earlier q n (is_same_group pg q) refl (are q n was))
    (ap (λ b. cond b (Some (length ids)) (old pg)) (same-self pg)) place q at
  where
    earlier : (q : PgId) (n : ℕ) (same : Bool) → is_same_group pg q ≡ same → old q ≡ Some n → cond (is_same_group pg q) (Some (length ids)) (old q) ≡ Some n
    earlier q n true same before = absurd (true≢false (sym (ap is_some (ap old (same_group pg q same) ∙ before)) ∙ absent))
    earlier q n false same before = ap (λ b. cond b (Some (length ids)) (old q)) same ∙ before

pub groups-more : (later : List Entry) (old groups : Groups) (kept : KeptGroup) (row : Row) → is_some (hash.get is_same_group old.places kept.pg) ≡ false
    → ((q : PgId) → hash.get is_same_group groups.places q ≡ cond (is_same_group kept.pg q) (Some (length old.kept.items)) (hash.get is_same_group old.places q))
    → groups.kept.items ≡ old.kept.items ++ kept ∷ [] → groups.some_worked_out ≡ old.some_worked_out → lacks_view kept ≡ true → IsKeptOf later kept
    → IsRowOf row kept → groups.rows.items ≡ old.rows.items ++ row ∷ [] → AreGroupsOf later old → AreGroupsOf later groups
groups-more later old groups kept row absent step items worked marked is shown rows are =
    let ids : ids_of groups.kept.items ≡ ids_of old.kept.items ++ kept.pg ∷ [] = ap ids_of items ∙ ids-push old.kept.items kept in
    let places : PgId → Option ℕ = hash.get is_same_group old.places in
    let long : length (ids_of old.kept.items) ≡ length old.kept.items = length-map old.kept.items (λ (k : KeptGroup). k.pg) in
    let grows : (q : PgId) → hash.get is_same_group groups.places q ≡ cond (is_same_group kept.pg q) (Some (length (ids_of old.kept.items))) (places q) =
    λ q. step q ∙ ap (λ n. cond (is_same_group kept.pg q) (Some n) (places q)) (sym long) in
    record {
      each = record { each = rw items (each-push (λ j z. IsKeptOf later z) old.kept.items kept are.each.each is) };
      places_are = record {
        there = λ q place found. ap (λ (l : List PgId). slice_get l place) ids
            ∙ there-push (ids_of old.kept.items) kept.pg places are.places_are.there q place (is_same_group kept.pg q) refl (sym (grows q) ∙ found);
        found = λ q place at. grows q
            ∙ found-push (ids_of old.kept.items) kept.pg places absent are.places_are.found q place (ap (λ (l : List PgId). slice_get l place) (sym ids) ∙ at);
        rows = rw (rows, items) (rows-push old.rows.items old.kept.items row kept shown are.places_are.rows);
      };
      marked_are = λ none. rw items (All-push (λ (k : KeptGroup). lacks_view k ≡ true) old.kept.items kept (are.marked_are (sym worked ∙ none)) marked);
    }

-- ---- which groups are kept

-- those that the table has, and no other
pub keeps-found : (groups : Groups) (pg : PgId) → AreAtPlaces groups → is_some (hash.get is_same_group groups.places pg) ≡ keeps pg groups
keeps-found groups pg are = at (hash.get is_same_group groups.places pg) refl where
  at : (found : Option ℕ) → hash.get is_same_group groups.places pg ≡ found → is_some found ≡ keeps pg groups
  at None none = sym (none-each (is_same_group pg) (ids_of groups.kept.items) (λ j other there. missing-id groups pg other j are none there))
  at (Some place) is = sym (true_from_ne_false (keeps pg groups) (λ none.
      true≢false (sym (same-self pg) ∙ none-at (is_same_group pg) (ids_of groups.kept.items) place pg none (are.there pg place is))))

-- where one comes, each other is kept where it was before
pub keeps-others : (xs : List KeptGroup) (kept : KeptGroup) (pg : PgId) → is_same_group pg kept.pg ≡ false → is_among pg (ids_of (xs ++ kept ∷ [])) ≡ is_among pg (ids_of xs)
keeps-others xs kept pg differs =
    ap (is_among pg) (ids-push xs kept) ∙ list_any-append (is_same_group pg) (ids_of xs) (kept.pg ∷ [])
    ∙ ap (λ b. list_any (is_same_group pg) (ids_of xs) || (b || false)) differs ∙ or-false (list_any (is_same_group pg) (ids_of xs))

-- and that one is
pub keeps-last : (xs : List KeptGroup) (kept : KeptGroup) → is_among kept.pg (ids_of (xs ++ kept ∷ [])) ≡ true
keeps-last xs kept =
    ap (is_among kept.pg) (ids-push xs kept) ∙ list_any-append (is_same_group kept.pg) (ids_of xs) (kept.pg ∷ [])
    ∙ ap (λ b. list_any (is_same_group kept.pg) (ids_of xs) || (b || false)) (same-self kept.pg)
    ∙ or-true (list_any (is_same_group kept.pg) (ids_of xs))

-- The groups of one owner, as the log grows.
use Rattle.pgp_shard.proofs.Common.{◌≡◌, ℕ, List, [], ◌∷◌, ◌++◌, Bor, Option, Some, None, is_some, option_map, Bool, true, false, not, ◌&&◌, ◌||◌, IfSome, ◌+◌, ◌<◌, length, take, get_or, nat_eq, nat_lt, eq-eqb, inl, inr, arith, refl, sym, ap, ◌∙◌, subst, list_any, option_copied, option_map_or, slice_get, with_item, and-true, and_from, and_parts, cases_Bool, cases_lt, eqb-true, false_from_ne_true, true_from_ne_false, true≢false, list_any_more, same_tests, none-at, Entry, Incremental, PgId, PoolSpec, View, checked-has_group, HasGroup, map_fault, then_with, IsMapOf, has_group, is_same_group, pool, OsdMap, unmade, scratch_there, inc_of, incs_of, makes, view_at, scratch, fits, AreGroupsOf, AreOwnGroupsOf, HasOwn, HasStill, IsKeptIfOwn, IsOwnIfKept, IsStepping, KeepsAll, keeps, marks_of, owns, IsKeptOf, IsRowOf, IsStep, IsViewOf, ids_of, epoch_of, is_legal, is_among, IsMapBefore, MapBefore, Groups, KeptGroup, Owner, Row, same_group}
use Rattle.pgp_ids.specs.declared.entry.Entry.TheVariants as entry
use Rattle.std.specs.HashMap as hash
use Rattle.pgp_shard.proofs.GroupsLemmas.{groups-anew, groups-on, ids-set, keeps-found}
use Rattle.pgp_shard.proofs.KeptLemmas.{grown, step-checked, step-fine, still-there}
use Rattle.pgp_shard.proofs.WorkedLemmas.{keeps-on}
use Rattle.pgp_log.proofs.LogLemmas.{legal-snoc}
use Rattle.pgp_log.proofs.ComingLemmas.{comes-with_pool}
use Rattle.pgp_log.proofs.TakeLemmas.{faultless-inc, fits-faultless, incs-other}

-- the map has taken an incremental
pub step-begins : (owner : Owner) (log : List Entry) (inc : Incremental) (old : Groups) (before : MapBefore) (after : OsdMap) → AreOwnGroupsOf owner log old → fits log (entry.Inc inc) ≡ None
    → ((incs : List Incremental) → IsMapOf incs old.map → IsMapBefore incs inc before)
    → ((incs : List Incremental) → IsMapOf incs old.map → map_fault incs inc ≡ None → IsMapOf (then_with incs inc) after) → IsStep log inc before after
step-begins owner log inc old before after is fit told made = record {
  legal = is.legal;
  fits = fit;
  before_is = told (incs_of log) is.map_is;
  after_is = made (incs_of log) is.map_is (faultless-inc log (entry.Inc inc) inc refl (fits-faultless log (entry.Inc inc) fit));
}

-- and so have the groups
pub groups-step : (owner : Owner) (log : List Entry) (inc : Incremental) (old : Groups) (before : MapBefore) (groups : Groups) → AreOwnGroupsOf owner log old → IsStep log inc before groups.map
    → AreGroupsOf (log ++ entry.Inc inc ∷ []) groups → ids_of groups.kept.items ≡ ids_of old.kept.items → IsStepping owner log inc groups
groups-step owner log inc old before groups is step are ids = record {
  before = before;
  step = step;
  groups_are = are;
  own_are = λ pg own there. ap (is_among pg) ids ∙ is.own_are pg ∙ and_from (owns owner pg) (has_group (incs_of log) pg) own there;
  only_own = λ pg kept.
      let was = and_parts (owns owner pg) (has_group (incs_of log) pg) (sym (is.own_are pg) ∙ sym (ap (is_among pg) ids) ∙ kept) in
      and_from (owns owner pg) (has_group (then_with (incs_of log) inc) pg) was.0
      (still-there (incs_of log) inc pg (step-fine log inc before groups.map step) was.1);
}

-- each of them stays as it is
pub groups-pass : (owner : Owner) (log : List Entry) (inc : Incremental) (old : Groups) (before : MapBefore) (after : OsdMap) → AreOwnGroupsOf owner log old → IsStep log inc before after
    → ((place : ℕ) (kept : KeptGroup) → slice_get old.kept.items place ≡ Some kept → IsKeptOf log kept → IsKeptOf (log ++ entry.Inc inc ∷ []) kept) → IsStepping owner log inc (record old { map = after })
groups-pass owner log inc old before after is step each = groups-step owner log inc old before _ is step (groups-on log (log ++ entry.Inc inc ∷ []) old after each is.groups_are) refl

-- and the owner's groups that come with it are there
pub step-ends : (owner : Owner) (log : List Entry) (inc : Incremental) (moved : Groups) → IsStepping owner log inc moved → HasOwn owner (then_with (incs_of log) inc) moved
    → AreOwnGroupsOf owner (log ++ entry.Inc inc ∷ []) moved
step-ends owner log inc moved is own = record {
  legal = legal-snoc log (entry.Inc inc) is.step.legal is.step.fits;
  map_is = subst (λ (l : List Incremental). IsMapOf l moved.map) (sym (grown log inc)) is.step.after_is;
  groups_are = is.groups_are;
  own_are = λ pg. own pg ∙ ap (λ (l : List Incremental). owns owner pg && has_group l pg) (sym (grown log inc));
}

-- the map stays, where the log grows by an entry that brings none, or not at all
pub own-stay : (owner : Owner) (log later : List Entry) (old groups : Groups) → is_legal later ≡ true → incs_of later ≡ incs_of log → groups.map ≡ old.map → AreGroupsOf later groups
    → ids_of groups.kept.items ≡ ids_of old.kept.items → AreOwnGroupsOf owner log old → AreOwnGroupsOf owner later groups
own-stay owner log later old groups legal same lies are ids is = record {
  legal = legal;
  map_is = subst (λ (l : List Incremental). IsMapOf l groups.map) (sym same) (subst (IsMapOf (incs_of log)) (sym lies) is.map_is);
  groups_are = are;
  own_are = λ pg. ap (is_among pg) ids ∙ is.own_are pg ∙ ap (λ (l : List Incremental). owns owner pg && has_group l pg) (sym same);
}

-- the groups have taken an entry that brings no map
pub own-told : (owner : Owner) (log : List Entry) (new : Entry) (old groups : Groups) → inc_of new ≡ None → fits log new ≡ None → groups.map ≡ old.map → AreGroupsOf (log ++ new ∷ []) groups
    → ids_of groups.kept.items ≡ ids_of old.kept.items → AreOwnGroupsOf owner log old → AreOwnGroupsOf owner (log ++ new ∷ []) groups
own-told owner log new old groups none fit lies are ids is = own-stay owner log (log ++ new ∷ []) old groups (legal-snoc log new is.legal fit) (incs-other log new none) lies are ids is

-- the next map has a group that its list has
pub next-has_group : (owner : Owner) (log : List Entry) (inc : Incremental) (groups : Groups) (pg : PgId) → IsStepping owner log inc groups → has_group (then_with (incs_of log) inc) pg ≡ true → HasGroup groups.map pg
next-has_group owner log inc groups pg is there =
    checked-has_group (then_with (incs_of log) inc) groups.map pg is.step.after_is (step-checked log inc is.before groups.map is.step) there

-- one of the groups is worked out, or was to be
pub worked-out : (owner : Owner) (log : List Entry) (old : Groups) (place : ℕ) (kept after : KeptGroup) (row : Row) → slice_get old.kept.items place ≡ Some kept → after.pg ≡ kept.pg → IsRowOf row after
    → (IsKeptOf log kept → IsMapOf (incs_of log) old.map → IsKeptOf log after) → AreOwnGroupsOf owner log old
    → AreOwnGroupsOf owner log (record old { rows = with_item old.rows place row; kept = with_item old.kept place after; some_worked_out = true })
worked-out owner log old place kept after row at same shown takes is =
    own-stay owner log log old _ is.legal refl refl
    (groups-anew log log old place kept after row true at same shown (λ none. absurd (true≢false none)) (λ of. takes of is.map_is) (λ j other differs there of. of) is.groups_are)
    (ids-set old.kept.items place kept after at same) is

-- the table has a group of the owner just where the map has it
pub found-own : (owner : Owner) (log : List Entry) (groups : Groups) (pg : PgId) (found : Option ℕ) → hash.get is_same_group groups.places pg ≡ found → AreOwnGroupsOf owner log groups → owns owner pg ≡ true → is_some found ≡ has_group (incs_of log) pg
found-own owner log groups pg found is are own = ap is_some (sym is) ∙ keeps-found groups pg are.groups_are.places_are ∙ are.own_are pg ∙ ap (λ b. b && has_group (incs_of log) pg) own

-- a group of a pool that the incremental makes isn't there before
pub absent-before : (log : List Entry) (inc : Incremental) (pg : PgId) → map_fault (incs_of log) inc ≡ None → makes pg.pool inc ≡ true → has_group (incs_of log) pg ≡ false
absent-before log inc pg fine made = false_from_ne_true (has_group (incs_of log) pg) (λ there.
    true≢false (sym made ∙ unmade (incs_of log) inc pg.pool fine (of_pool (pool (incs_of log) pg.pool) there)))
  where
    of_pool : (found : Option PoolSpec) → option_map_or (λ made'. nat_lt pg.pg made'.pg_num) found false ≡ true → is_some found ≡ true
    of_pool None there = there
    of_pool (Some made') there = refl

-- a pool of its list is one that the incremental makes
pub made-here : (inc : Incremental) (i : ℕ) (made : PoolSpec) → slice_get inc.pools i ≡ Some made → makes made.id inc ≡ true
made-here inc i made at = true_from_ne_false (makes made.id inc) (λ none.
    true≢false (sym (eq-eqb made.id made.id refl) ∙ none-at (λ (p : PoolSpec). nat_eq p.id made.id) inc.pools i made none at))

-- a group that the last map doesn't have has no view
pub no-view : (log : List Entry) (pg : PgId) → has_group (incs_of log) pg ≡ false → None ≡ scratch log pg
no-view log pg absent = none-there (scratch log pg) (scratch_there log pg ∙ absent) where
  none-there : {X : Type 0} (found : Option X) → is_some found ≡ false → None ≡ found
  none-there found none = grind arith

-- ---- the shard's groups

-- a group that was kept is kept still
pub has-still : (owner : Owner) (incs : List Incremental) (before after : Groups) (pg : PgId) → HasStill before after → IsKeptIfOwn owner incs before pg → IsKeptIfOwn owner incs after pg
has-still owner incs before after pg still has = λ own there. still.groups_are pg (has own there)

pub still-on : (first before after : Groups) → HasStill first before → HasStill before after → HasStill first after
still-on first before after one two = record {
  groups_are = λ pg was. two.groups_are pg (one.groups_are pg was);
  kept = keeps-on first before after one.kept two.kept;
  marked = λ all. two.marked (one.marked all);
}

-- one of them comes: what was kept is kept still
pub keeps-still : (old groups : Groups) (pg : PgId) → keeps pg groups ≡ true → ((other : PgId) → is_same_group other pg ≡ false → keeps other groups ≡ keeps other old) → KeepsAll old groups
keeps-still old groups pg there others = λ other was. elim (cases_Bool (is_same_group other pg)) [
  | inl same ↦ ap (λ (p : PgId). keeps p groups) (same_group other pg same) ∙ there
  | inr differs ↦ others other differs ∙ was
]

-- and it is the only one that comes
pub only-more : (owner : Owner) (incs : List Incremental) (old groups : Groups) (pg : PgId) → owns owner pg ≡ true → has_group incs pg ≡ true
    → ((other : PgId) → is_same_group other pg ≡ false → keeps other groups ≡ keeps other old) → ((other : PgId) → IsOwnIfKept owner incs old other)
    → (other : PgId) → IsOwnIfKept owner incs groups other
only-more owner incs old groups pg own there others only other kept = elim (cases_Bool (is_same_group other pg)) [
  | inl same ↦
      ap (λ (p : PgId). owns owner p && has_group incs p) (same_group other pg same)
      ∙ and_from (owns owner pg) (has_group incs pg) own there
  | inr differs ↦ only other (sym (others other differs) ∙ kept)
]

-- those of the map before are kept, so are those of the pools that the incremental makes, and no other
pub own-next : (owner : Owner) (log : List Entry) (inc : Incremental) (moved : Groups) → IsStepping owner log inc moved → ((pg : PgId) → makes pg.pool inc ≡ true → IsKeptIfOwn owner (then_with (incs_of log) inc) moved pg)
    → HasOwn owner (then_with (incs_of log) inc) moved
own-next owner log inc moved is made = λ pg. same_tests (keeps pg moved) (owns owner pg && has_group (then_with (incs_of log) inc) pg) (is.only_own pg) (all pg) where
  all : (pg : PgId) → (owns owner pg && has_group (then_with (incs_of log) inc) pg) ≡ true → keeps pg moved ≡ true
  all pg is_there =
      let both = and_parts (owns owner pg) (has_group (then_with (incs_of log) inc) pg) is_there in
      elim (cases_Bool (has_group (incs_of log) pg)) [
        | inl was ↦ is.own_are pg both.0 was
        | inr new ↦ made pg (comes-with_pool (incs_of log) inc pg new both.1) both.0 both.1
      ]

-- ---- the groups of a pool

-- one of its groups more is there
pub pool-more : (owner : Owner) (incs : List Incremental) (before after : Groups) (id number : ℕ) → HasStill before after → ((pg : PgId) → nat_eq id pg.pool ≡ true → pg.pg < number → IsKeptIfOwn owner incs before pg)
    → IsKeptIfOwn owner incs after (record { pool = id; pg = number }) → (pg : PgId) → nat_eq id pg.pool ≡ true → pg.pg < number + 1 → IsKeptIfOwn owner incs after pg
pool-more owner incs before after id number still has next pg same below = elim (cases_lt pg.pg number) [
  | inl earlier ↦ has-still owner incs before after pg still (has pg same earlier)
  | inr past ↦
      let here : number ≡ pg.pg = omega arith in
      let is : pg_at id number ≡ pg = λ i. record { pool = eqb-true id pg.pool same i; pg = here i } in
      subst (IsKeptIfOwn owner incs after) is next
]
  where
    pg_at : ℕ → ℕ → PgId
    pg_at in_pool at = record { pool = in_pool; pg = at }

-- and so are those of one pool more that the incremental makes
pub pools-more : (owner : Owner) (incs : List Incremental) (inc : Incremental) (before after : Groups) (i : ℕ) (new : PoolSpec) → HasStill before after → i < length inc.pools → new ≡ get_or inc.pools i new
    → ((pg : PgId) → list_any (λ made. nat_eq made.id pg.pool) (take i inc.pools) ≡ true → IsKeptIfOwn owner incs before pg) → ((pg : PgId) → nat_eq new.id pg.pool ≡ true → IsKeptIfOwn owner incs after pg)
    → (pg : PgId) → list_any (λ made. nat_eq made.id pg.pool) (take (i + 1) inc.pools) ≡ true → IsKeptIfOwn owner incs after pg
pools-more owner incs inc before after i new still within item has next pg made = elim (cases_Bool (list_any (λ (p : PoolSpec). nat_eq p.id pg.pool) (take i inc.pools))) [
  | inl earlier ↦ has-still owner incs before after pg still (has pg earlier)
  | inr none ↦
      let test : PoolSpec → Bool = λ p. nat_eq p.id pg.pool in
      let here : nat_eq new.id pg.pool ≡ true =
      ap test item ∙ ap (λ b. b || test (get_or inc.pools i new)) (sym none) ∙ sym (list_any_more test inc.pools i new within) ∙ made in
      next pg here
]

-- the view of a group that isn't marked, except for count and epoch, is there where the map has the group
pub view-told : (log : List Entry) (groups : Groups) (pg : PgId) (told : Option (Bor View)) → is_some told ≡ (has_group (incs_of log) pg && not (is_among pg (marks_of groups)))
    → IfSome told (λ view. IsViewOf log pg view.now) → is_among pg (marks_of groups) ≡ false → scratch log pg ≡ option_map (view_at (length log) (epoch_of log)) (option_copied told)
view-told log groups pg None there says unmarked =
    sym (no-view log pg (sym (there ∙ ap (λ b. has_group (incs_of log) pg && not b) unmarked ∙ and-true (has_group (incs_of log) pg))))
view-told log groups pg (Some view) there says unmarked = says

-- the view that is lent, at the log's count and epoch
pub view-lent : (log : List Entry) (pg : PgId) (told : Option (Bor View)) (view : Bor View) → scratch log pg ≡ option_map (view_at (length log) (epoch_of log)) (option_copied told)
    → told ≡ Some view → scratch log pg ≡ Some (view_at (length log) (epoch_of log) view.now)
view-lent log pg told view says is = says ∙ ap (λ (o : Option (Bor View)). option_map (view_at (length log) (epoch_of log)) (option_copied o)) is

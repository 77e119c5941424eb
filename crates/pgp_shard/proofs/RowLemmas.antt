-- Rows of groups, and the incrementals by which they are passed by.
use Rattle.pgp_shard.proofs.Common.{and-false, has, may_concern, may_place_group, temp_key, may_meet, changes_placement, ◌≡◌, ℕ, ◌+◌, ◌<◌, List, [], ◌∷◌, ◌++◌, Bool, true, false, ◌&&◌, not, ◌||◌, Option, Some, length, map, set, nat_eq, refl, sym, ap, ◌∙◌, subst, inl, inr, ◌⊎◌, is_some, arith, eq-eqb, length-append, list_any, option_map, option_map_or, slice_get, or-true, cases_Bool, cases_eq, cases_lt, true≢false, not-false, not-true, length-set, same_Some, slice_get_within, and3_parts, or3_parts, PoolSizes, any-mapped, get-append, get-last, get-set_other, get-set_same, Entry, DeviceWeight, Incremental, PgId, pool, temp, OsdMap, then_with, may_place_elsewhere, raw_places, raw_set, switches_any, weighed, lighter-elsewhere, or3_false, unplaced, incs_of, group_in, changed_devices, changes_pool, changes_temp, has_osd, has_to_do_with, may_lie_on, moves_all, names, turned_devices, MapBefore, AreRowsOf, IsChangesOf, IsKeptOf, IsRowOf, IsStep, lacks_view, Covers, CoversStill, makes_heavier, only_lightens, changes_no_pool, changes_placements, KeptGroup, OsdFilter, Row, may_move, is_touched}
use Rattle.std.proofs.lemmas.Option.{slice_get_cases}
use Rattle.pgp_ids.specs.declared.entry.Entry.TheVariants as entry
use Rattle.pgp_shard.specs.declared.row.Changes.{Changes}
use Rattle.pgp_shard.proofs.OsdFilterLemmas.{shared}
use Rattle.pgp_lists.proofs.Lists.{any-same}
use Rattle.pgp_log.specs.Touch.{stands_in}
use Rattle.pgp_log.proofs.TouchLemmas.{no-pools, nothing-placed}
use Rattle.pgp_shard.proofs.StillLemmas.{kept-stays, kept-unseen}

-- ---- rows by their places

-- what holds of the elements and their places, where one of them is another now
pub each-set : {X : Type 0} (Q : ℕ → X → Type 0) (xs : List X) (i : ℕ) (y : X) → i < length xs → Q i y → ((j : ℕ) (z : X) → (j ≡ i → ⊥) → slice_get xs j ≡ Some z → Q j z)
    → (j : ℕ) (z : X) → slice_get (set xs i y) j ≡ Some z → Q j z
each-set Q xs i y within holds others j z at = elim (cases_eq j i) [
  | inl here ↦ subst (λ n. Q n z) (sym here) (subst (Q i) (same_Some y z (sym (get-set_same xs i y within) ∙ ap (slice_get (set xs i y)) (sym here) ∙ at)) holds)
  | inr other ↦ others j z other (sym (get-set_other xs i j y other) ∙ at)
]

-- or where one comes
pub each-push : {X : Type 0} (Q : ℕ → X → Type 0) (xs : List X) (x : X) → ((j : ℕ) (z : X) → slice_get xs j ≡ Some z → Q j z) → Q (length xs) x
    → (j : ℕ) (z : X) → slice_get (xs ++ x ∷ []) j ≡ Some z → Q j z
each-push Q xs x each last j z at = elim (cases_lt j (length xs)) [
  | inl below ↦ each j z (sym (get-append xs (x ∷ []) j below) ∙ at)
  | inr past ↦
      let here : j ≡ length xs = omega (arith, past, slice_get_within (xs ++ x ∷ []) j z at, length-append xs (x ∷ [])) in
      subst (λ n. Q n z) (sym here) (subst (Q (length xs)) (same_Some x z (sym (get-last xs x) ∙ ap (slice_get (xs ++ x ∷ [])) (sym here) ∙ at)) last)
]

-- where a group is another now, and its row is made anew
pub rows-set : (rows : List Row) (groups : List KeptGroup) (i : ℕ) (row : Row) (kept : KeptGroup) → i < length groups → IsRowOf row kept → AreRowsOf rows groups → AreRowsOf (set rows i row) (set groups i kept)
rows-set rows groups i row kept within is are = record {
  long = length-set rows i row ∙ are.long ∙ sym (length-set groups i kept);
  each = λ j r k at. each-set (λ n x. slice_get (set groups i kept) n ≡ Some k → IsRowOf x k) rows i row (omega (arith, within, are.long))
      (λ there. subst (IsRowOf row) (same_Some kept k (sym (get-set_same groups i kept within) ∙ there)) is)
      (λ n x other was there. are.each n x k was (sym (get-set_other groups i n kept other) ∙ there)) j r at;
}

-- where one comes
pub rows-push : (rows : List Row) (groups : List KeptGroup) (row : Row) (kept : KeptGroup) → IsRowOf row kept → AreRowsOf rows groups → AreRowsOf (rows ++ row ∷ []) (groups ++ kept ∷ [])
rows-push rows groups row kept is are = record {
  long = length-append rows (row ∷ []) ∙ ap (λ n. n + 1) are.long ∙ sym (length-append groups (kept ∷ []));
  each = λ j r k at. each-push (λ n x. slice_get (groups ++ kept ∷ []) n ≡ Some k → IsRowOf x k) rows row
      (λ n x was there. are.each n x k was (sym (get-append groups (kept ∷ []) n (omega (arith, slice_get_within rows n x was, are.long))) ∙ there))
      (λ there. subst (IsRowOf row) (same_Some kept k (sym (get-last groups kept) ∙ ap (slice_get (groups ++ kept ∷ [])) (sym are.long) ∙ there)) is) j r at;
}

-- what is kept at the place of a row, which says whether it is marked
pub record IsBesideRow (groups : List KeptGroup) (place : ℕ) (row : Row) : Type 0 where
  pub kept : KeptGroup
  pub at : slice_get groups place ≡ Some kept
  pub marked : row.marked ≡ lacks_view kept

pub beside-row : (rows : List Row) (groups : List KeptGroup) (place : ℕ) (row : Row) → AreRowsOf rows groups → slice_get rows place ≡ Some row → IsBesideRow groups place row
beside-row rows groups place row are is = elim (slice_get_cases groups place).1 [
  | inl there ↦ record { kept = there.0; at = there.2; marked = (are.each place row there.0 is there.2).marked }
  | inr past ↦ absurd (omega (arith, past.0, slice_get_within rows place row is, are.long))
]

-- ---- the row of a group

placed-by : {X Y : Type 0} (f : X → Y) (test : Y → Bool) (found : Option X) (y : Y) → option_map f found ≡ Some y → option_map_or (λ x. test (f x)) found false ≡ test y
placed-by f test found y is = grind arith

-- the group may lie on the devices of its raw set and of its pg_temp list
pub lies_there : (log : List Entry) (kept : KeptGroup) (osd : ℕ) → IsKeptOf log kept → may_lie_on (incs_of log) kept.pg osd ≡ stands_in kept.raw kept.temp osd
lies_there log kept osd is =
    ap (λ b. b || has_osd osd (temp (incs_of log) kept.pg)) (placed-by (λ made. raw_set (incs_of log) made kept.pg) (has_osd osd) (pool (incs_of log) kept.pg.pool) kept.raw is.raw_is)
    ∙ ap (λ (l : List (Option ℕ)). has_osd osd kept.raw || has_osd osd l) (sym is.temp_is)

pub any-lies-there : (log : List Entry) (kept : KeptGroup) (osds : List ℕ) → IsKeptOf log kept → list_any (may_lie_on (incs_of log) kept.pg) osds ≡ list_any (stands_in kept.raw kept.temp) osds
any-lies-there log kept osds is = any-same (may_lie_on (incs_of log) kept.pg) (stands_in kept.raw kept.temp) osds (λ osd. lies_there log kept osd is)

one-of : {P : Type 0} (a b : Bool) → (a || b) ≡ true → (a ≡ true → P) → (b ≡ true → P) → P
one-of true b is here there = here refl
one-of false b is here there = there is

-- a set that the devices which pass one test were put in, and then those which pass another
pub either-in : (p q : ℕ → Bool) (one two : OsdFilter) → ((osd : ℕ) → p osd ≡ true → Covers one osd) → CoversStill one two → ((osd : ℕ) → q osd ≡ true → Covers two osd)
    → (osd : ℕ) → (p osd || q osd) ≡ true → Covers two osd
either-in p q one two first still second osd is = one-of (p osd) (q osd) is (λ has. still osd (first osd has)) (second osd)

-- sets that the devices of the lists were put in, one list after the other
pub row-is : (kept : KeptGroup) (marked : Bool) (one two all : OsdFilter) → marked ≡ lacks_view kept → ((osd : ℕ) → has_osd osd kept.raw ≡ true → Covers one osd) → CoversStill one two → ((osd : ℕ) → has_osd osd kept.temp ≡ true → Covers two osd) → CoversStill two all
    → (lacks_view kept ≡ false → (log : List Entry) → IsKeptOf log kept → (osd : ℕ) → option_map_or (names osd) (group_in log kept.pg) false ≡ true → Covers all osd)
    → IsRowOf (record { pg = kept.pg; marked = marked; devices = all }) kept
row-is kept marked one two all same raw second temp_list third named = record {
  pg = refl;
  marked = same;
  lies_on = lies;
  knows = λ worked_out log is osd knows. one-of (may_lie_on (incs_of log) kept.pg osd) (option_map_or (names osd) (group_in log kept.pg) false) knows
      (lies log is osd) (named worked_out log is osd);
}
  where
    lies : (log : List Entry) → IsKeptOf log kept → (osd : ℕ) → may_lie_on (incs_of log) kept.pg osd ≡ true → Covers all osd
    lies log is osd lies_on =
        third osd (either-in (λ o. has_osd o kept.raw) (λ o. has_osd o kept.temp) one two raw second temp_list osd (sym (lies_there log kept osd is) ∙ lies_on))

-- ---- a group that is passed by

-- a test that no device of the list passes
none-passes : (test : ℕ → Bool) (osds : List ℕ) → ((osd : ℕ) → test osd ≡ true → list_any (nat_eq osd) osds ≡ true → ⊥) → list_any test osds ≡ false
none-passes test [] none = refl
none-passes test (x ∷ xs) none = elim (cases_Bool (test x)) [
  | inl passes ↦ absurd (none x passes (ap (λ b. b || list_any (nat_eq x) xs) (eq-eqb x x refl)))
  | inr fails ↦ rw fails (none-passes test xs (λ osd passes there. none osd passes (ap (λ b. nat_eq osd x || b) there ∙ or-true (nat_eq osd x))))
]

-- sets whose words share no bit have no device in common
apart : (one two : OsdFilter) → may_meet one two ≡ false → (osd : ℕ) → Covers one osd → Covers two osd → ⊥
apart one two none osd here there = true≢false (sym (shared one two osd here there) ∙ none)

-- the places of the raw set are those of the group
raw-is : (log : List Entry) (kept : KeptGroup) → IsKeptOf log kept → raw_places (incs_of log) kept.pg ≡ kept.raw
raw-is log kept is = ap (λ (o : Option (List (Option ℕ))). option_map_or (λ places. places) o []) is.raw_is

light-parts : (incs : List Incremental) (inc : Incremental) → only_lightens incs inc ≡ true
    → (is_some inc.crush ≡ false) × (changes_no_pool inc ≡ true) × (makes_heavier (then_with incs inc) (map (weighed incs) inc.weight) ≡ false)
light-parts incs inc light =
    let heavier = makes_heavier (then_with incs inc) (map (weighed incs) inc.weight) in
    let parts = and3_parts (not (is_some inc.crush)) (changes_no_pool inc) (not heavier) light in (
      not-true (is_some inc.crush) parts.0,
      parts.1,
      not-true heavier parts.2,
    )

-- weights by which no device gets heavier place a group elsewhere only if they weigh a device of its raw set
lightened : (log : List Entry) (inc : Incremental) (before : MapBefore) (after : OsdMap) (changes : Changes) (row : Row) (kept : KeptGroup) → IsChangesOf inc before after changes → only_lightens (incs_of log) inc ≡ true
    → IsRowOf row kept → IsKeptOf log kept → ((osd : ℕ) → Covers row.devices osd → Covers changes.movers osd → ⊥) → may_place_elsewhere (incs_of log) inc kept.pg ≡ false
lightened log inc before after changes row kept says light is holds apart =
    let parts = light-parts (incs_of log) inc light in
    let osd_of : DeviceWeight → ℕ = λ given. given.osd in
    let places = raw_places (incs_of log) kept.pg in
    let lies : (osd : ℕ) → has_osd osd places ≡ true → may_lie_on (incs_of log) kept.pg osd ≡ true = λ osd there.
    lies_there log kept osd holds ∙ ap (λ b. b || has_osd osd kept.temp) (ap (has_osd osd) (sym (raw-is log kept holds)) ∙ there) in
    let none : list_any (λ osd. has_osd osd places) (map osd_of inc.weight) ≡ false =
    none-passes (λ osd. has_osd osd places) (map osd_of inc.weight)
    (λ osd there given. apart osd (is.lies_on log holds osd (lies osd there)) (says.weighed osd (sym (any-mapped osd_of (nat_eq osd) inc.weight) ∙ given))) in
    let sizes : list_any (λ (sizes : PoolSizes). nat_eq sizes.pool kept.pg.pool) inc.sizes ≡ false = ap (list_any (λ (sizes : PoolSizes). nat_eq sizes.pool kept.pg.pool)) (no-pools inc parts.1).1 in
    or3_false (is_some inc.crush) (list_any (λ (sizes : PoolSizes). nat_eq sizes.pool kept.pg.pool) inc.sizes) (switches_any (then_with (incs_of log) inc) kept.pg places (map (weighed (incs_of log)) inc.weight))
    parts.0 sizes (lighter-elsewhere (then_with (incs_of log) inc) kept.pg places (map (weighed (incs_of log)) inc.weight) parts.2
    (any-mapped (weighed (incs_of log)) (λ old. has_osd old.osd places) inc.weight ∙ sym (any-mapped osd_of (λ osd. has_osd osd places) inc.weight) ∙ none))

-- no placement of the group changes, and no device on which it may lie is turned
lies-still : (incs : List Incremental) (inc : Incremental) (pg : PgId) → changes_placement inc pg ≡ false → list_any (may_lie_on incs pg) (turned_devices inc) ≡ false → may_move incs inc pg ≡ false
lies-still incs inc pg placed turned =
    let parts = or3_parts (moves_all inc) (changes_pool inc pg.pool) (changes_temp inc pg) placed in
    rw (unplaced incs inc pg parts.0 parts.1, parts.1, parts.2) turned

either : (placed light : Bool) → (placed && not light) ≡ false → (placed ≡ false) ⊎ (light ≡ true)
either true light none = inr (not-false light none)
either false light none = inl refl

-- where its key is among those of the lists if it has one there, whether the key is looked for first makes no difference
by-key : (all pool key temp : Bool) → (temp ≡ true → key ≡ true) → (all || pool || (key && temp)) ≡ (all || pool || temp)
by-key all pool key true there = rw (there refl) refl
by-key all pool key false there = rw (and-false key) refl

concern-parts : (a b c : Bool) → (a && b || c) ≡ false → ((a ≡ false) ⊎ (b ≡ false)) × (c ≡ false)
concern-parts true true c none = absurd (true≢false none)
concern-parts true false c none = (inr refl, none)
concern-parts false b c none = (inl refl, none)

-- the incremental of these changes comes next, and doesn't concern the group by its row
module _ (log : List Entry) (inc : Incremental) (before : MapBefore) (after : OsdMap) (changes : Changes) (row : Row) (kept : KeptGroup) (says : IsChangesOf inc before after changes) (is : IsRowOf row kept)
    (holds : IsKeptOf log kept) (step : IsStep log inc before after) where
  placed_group : may_place_group changes inc row.pg ≡ changes_placement inc row.pg
  placed_group = by-key (moves_all inc) (changes_pool inc row.pg.pool) (has changes.temps (temp_key row.pg)) (changes_temp inc row.pg) (says.temps row.pg)

  -- where the group is marked, it isn't moved
  unmoved : (changes.moves && may_place_group changes inc row.pg || may_meet row.devices changes.movers) ≡ false → may_move (incs_of log) inc kept.pg ≡ false
  unmoved none =
      let parts = concern-parts changes.moves (may_place_group changes inc row.pg) (may_meet row.devices changes.movers) none in
      let turned : list_any (may_lie_on (incs_of log) kept.pg) (turned_devices inc) ≡ false =
      none-passes (may_lie_on (incs_of log) kept.pg) (turned_devices inc)
      (λ osd lies there. apart row.devices changes.movers parts.1 osd (is.lies_on log holds osd lies) (says.turned osd there)) in
      elim parts.0 [
        | inl still ↦ elim (either (changes_placements inc) (only_lightens (incs_of log) inc) (sym (says.moves (incs_of log) step.before_is step.after_is) ∙ still)) [
          | inl nothing ↦ lies-still (incs_of log) inc kept.pg (nothing-placed inc kept.pg nothing) turned
          | inr light ↦
              let pools = no-pools inc (light-parts (incs_of log) inc light).1 in
              let own : changes_pool inc kept.pg.pool ≡ false = rw (pools.0, pools.1) refl in
              rw (lightened log inc before after changes row kept says light is holds (apart row.devices changes.movers parts.1), own, pools.2) turned
        ]
        | inr own ↦ lies-still (incs_of log) inc kept.pg (subst (λ (pg : PgId). changes_placement inc pg ≡ false) is.pg (sym placed_group ∙ own)) turned
      ]

  -- where it isn't marked, it isn't touched
  untouched : lacks_view kept ≡ false → (changes.places && may_place_group changes inc row.pg || may_meet row.devices changes.devices) ≡ false → is_touched log (entry.Inc inc) kept.pg ≡ false
  untouched worked_out none =
      let parts = concern-parts changes.places (may_place_group changes inc row.pg) (may_meet row.devices changes.devices) none in
      let placed : changes_placement inc kept.pg ≡ false = elim parts.0 [
        | inl nothing ↦ nothing-placed inc kept.pg (sym says.places ∙ nothing)
        | inr own ↦ subst (λ (pg : PgId). changes_placement inc pg ≡ false) is.pg (sym placed_group ∙ own)
      ] in
      ap (λ b. b || list_any (has_to_do_with log kept.pg) (changed_devices inc)) placed
      ∙ none-passes (has_to_do_with log kept.pg) (changed_devices inc)
      (λ osd knows there. apart row.devices changes.devices parts.1 osd (is.knows worked_out log holds osd knows) (says.devices osd there))

  -- so it stays as it is
  pub passed-stays : may_concern changes inc row ≡ false → IsKeptOf (log ++ entry.Inc inc ∷ []) kept
  passed-stays none = elim (cases_Bool row.marked) [
    | inl marked ↦ kept-unseen log inc before after kept (sym is.marked ∙ marked) step holds (unmoved (rw marked at none))
    | inr worked_out ↦ kept-stays log inc before after kept step holds (untouched (sym is.marked ∙ worked_out) (rw worked_out at none))
  ]

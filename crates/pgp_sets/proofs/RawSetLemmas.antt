-- A group's raw set stays, unless an incremental may place it anew.
use Rattle.std.proofs.Common.{◌≡◌, ℕ, List, [], ◌∷◌, Option, Some, None, Bool, false, true, zero-add, arith, refl, ap, sym, ◌∙◌, subst, map, inl, inr, ◌≤◌, ◌<◌}
use Rattle.std.specs.Prelude.{nat_eq, nat_lt, length, option_map, is_some, not, ◌&&◌, ◌||◌, if◌then◌else◌}
use Rattle.std.specs.List.{Contains, list_any, range_with_len}
use Rattle.std.specs.Option.{option_eq, option_map_or}
use Rattle.std.proofs.lemmas.Bool.{cases_lt, eqb-true, not-false, or_parts, true≢false}
use Rattle.std.proofs.lemmas.Bool.Decides.{nat_tests}
use Rattle.std.proofs.lemmas.List.{get_or_past, length-map}
use Rattle.std.proofs.lemmas.List.FromFn.{get_or-map-range_with_len, length-map-range_with_len}
use Rattle.pgp_crush.specs.Out.{is_in, is_in_by}
use Rattle.pgp_crush.specs.Placement.{placement}
use Rattle.pgp_crush.proofs.FewerInLemmas.{placement_of_fewer}
use Rattle.pgp_ids.specs.declared.incremental.DeviceWeight.{DeviceWeight}
use Rattle.pgp_ids.specs.declared.incremental.Incremental.{Incremental}
use Rattle.pgp_ids.specs.declared.pg_id.PgId.{PgId}
use Rattle.pgp_ids.specs.declared.pool.PoolSpec.{PoolSpec}
use Rattle.pgp_lists.proofs.Bools.{or3_parts}
use Rattle.pgp_lists.proofs.Members.{contains-any}
use Rattle.pgp_lists.proofs.Last.{last_found}
use Rattle.pgp_lists.proofs.Lists.{any-mapped}
use Rattle.pgp_lists.proofs.Options.{map_some}
use Rattle.pgp_lists.specs.Last.{last_where}
use Rattle.pgp_map.specs.Devices.{weight, weights}
use Rattle.pgp_map.specs.Map.{tree}
use Rattle.pgp_map.specs.MapFault.{map_fault, then_with}
use Rattle.pgp_map.specs.Pools.{pool}
use Rattle.pgp_map.specs.WeightTable.{with_weight}
use Rattle.pgp_map.proofs.CheckedLemmas.{pool-stays}
use Rattle.pgp_map.proofs.MapLemmas.{tree-push, weight-push}
use Rattle.pgp_sets.specs.Sets.{rule_of, placement_input, raw_set, raw_set_of, may_place_elsewhere, moves, raw_places, has_osd, switches, switches_any, weighed}

-- a device that is in stays so where it gets heavier
in-rises : (before after x osd : ℕ) → before ≤ after → is_in_by before x osd ≡ true → is_in_by after x osd ≡ true
unfolding is_in_by
in-rises before after x osd heavier here = grind (arith, nat_tests)

-- a device that gets heavier doesn't go out, and one that gets lighter doesn't come in
by_weight : (there before after lighter : Bool) → (lighter ≡ true → before ≡ true → after ≡ true) → (lighter ≡ false → after ≡ true → before ≡ true)
    → (if before then there && not after else after) ≡ (if lighter then not before && after else there && before && not after)
by_weight true true after true rises falls = rw (rises refl refl) refl
by_weight false true after true rises falls = refl
by_weight there false after true rises falls = refl
by_weight true true after false rises falls = refl
by_weight false true after false rises falls = refl
by_weight there false true false rises falls = absurd (true≢false (sym (falls refl refl)))
by_weight true false false false rises falls = refl
by_weight false false false false rises falls = refl

pub switch_by_weight : (x : ℕ) (places : List (Option ℕ)) (osd before after : ℕ)
    → switches x places osd before after ≡ (if nat_lt before after then not (is_in_by before x osd) && is_in_by after x osd else has_osd osd places && is_in_by before x osd && not (is_in_by after x osd))
switch_by_weight x places osd before after =
    by_weight (has_osd osd places) (is_in_by before x osd) (is_in_by after x osd) (nat_lt before after)
    (λ heavier. in-rises before after x osd (grind (arith, nat_tests)))
    (λ lighter. in-rises after before x osd (grind (arith, nat_tests)))

-- what holds of a device that isn't switched
record IsKept (before there after : Bool) : Type 0 where
  none_in : after ≡ true → before ≡ true
  none_out : there ≡ true → before ≡ true → after ≡ true

unswitched : (before there after : Bool) → (if before then there && not after else after) ≡ false → IsKept before there after
unswitched true true after none = record { none_in = λ is. refl; none_out = λ place here. not-false after none }
unswitched true false after none = record { none_in = λ is. refl; none_out = λ place here. cc }
unswitched false there after none = record { none_in = λ is. sym none ∙ is; none_out = λ place here. cc }

same-kept : (before there after : Bool) → after ≡ before → IsKept before there after
same-kept before there after same = record { none_in = λ is. sym same ∙ is; none_out = λ place here. same ∙ here }

in-stays : (incs : List Incremental) (inc : Incremental) (x : ℕ) (places : List (Option ℕ)) (osd : ℕ)
    → list_any (λ old. switches x places old.osd old.weight (weight (then_with incs inc) old.osd)) (map (weighed incs) inc.weight) ≡ false
    → IsKept (is_in_by (weight incs osd) x osd) (has_osd osd places) (is_in_by (weight (then_with incs inc) osd) x osd)
in-stays incs inc x places osd none = by_given (last_where (λ entry. nat_eq entry.osd osd) inc.weight) refl
  where
    by_given : (found : Option DeviceWeight) → last_where (λ entry. nat_eq entry.osd osd) inc.weight ≡ found
        → IsKept (is_in_by (weight incs osd) x osd) (has_osd osd places) (is_in_by (weight (then_with incs inc) osd) x osd)
    by_given None is =
        same-kept (is_in_by (weight incs osd) x osd) (has_osd osd places) (is_in_by (weight (then_with incs inc) osd) x osd)
        (ap (λ w. is_in_by w x osd) (weight-push incs inc osd ∙ ap (λ (found : Option DeviceWeight). with_weight found (weight incs osd)) is))
    by_given (Some given) is =
        let test = λ (old : DeviceWeight). switches x places old.osd old.weight (weight (then_with incs inc) old.osd) in
        let found = last_found (λ given. test (weighed incs given)) (λ entry. nat_eq entry.osd osd) inc.weight given (sym (any-mapped (weighed incs) test inc.weight) ∙ none) is in
        subst (λ (q : ℕ). IsKept (is_in_by (weight incs q) x q) (has_osd q places) (is_in_by (weight (then_with incs inc) q) x q)) (eqb-true given.osd osd found.0)
        (unswitched (is_in_by (weight incs given.osd) x given.osd) (has_osd given.osd places) (is_in_by (weight (then_with incs inc) given.osd) x given.osd) found.1)

-- the table of weights says of a device what its weight says, and of a number past it that it is out
by-table : (f : ℕ → ℕ) (x osd : ℕ) → osd < 4096 → is_in (map f (range_with_len 0 4096)) x osd ≡ is_in_by (f osd) x osd
by-table f x osd within = ap (λ w. is_in_by w x osd) (get_or-map-range_with_len f 0 4096 osd osd 0 within (zero-add osd))

past-table : (f : ℕ → ℕ) (x osd : ℕ) → 4096 ≤ osd → is_in (map f (range_with_len 0 4096)) x osd ≡ false
unfolding is_in_by
past-table f x osd beyond = ap (λ w. is_in_by w x osd) (get_or_past (map f (range_with_len 0 4096)) osd 0 (omega (arith, length-map-range_with_len f 0 4096, beyond)))

-- so it is by the tables of weights
in-tables : (x osd : ℕ) (there : Bool) (before after : ℕ → ℕ) → IsKept (is_in_by (before osd) x osd) there (is_in_by (after osd) x osd)
    → IsKept (is_in (map before (range_with_len 0 4096)) x osd) there (is_in (map after (range_with_len 0 4096)) x osd)
in-tables x osd there before after kept = elim (cases_lt osd 4096) [
  | inl within ↦ rw (by-table before x osd within, by-table after x osd within) kept
  | inr beyond ↦ same-kept (is_in (map before (range_with_len 0 4096)) x osd) there (is_in (map after (range_with_len 0 4096)) x osd) (past-table after x osd beyond ∙ sym (past-table before x osd beyond))
]

-- the tree stays, where none is given
tree-stays : (incs : List Incremental) (inc : Incremental) → is_some inc.crush ≡ false → tree (then_with incs inc) ≡ tree incs
tree-stays incs inc none = tree-push incs inc ∙ (grind arith)

stands-there : (osd : ℕ) (places : List (Option ℕ)) → Contains places (Some osd) → has_osd osd places ≡ true
stands-there osd places there = let same : nat_eq osd osd ≡ true = grind (arith, nat_tests) in contains-any (option_eq nat_eq (Some osd)) places (Some osd) there same

pub raw_set-stays : (incs : List Incremental) (inc : Incremental) (pg : PgId) (places : List (Option ℕ)) → map_fault incs inc ≡ None
    → may_place_elsewhere incs inc pg ≡ false → raw_set_of incs pg ≡ Some places → raw_set_of (then_with incs inc) pg ≡ Some places
raw_set-stays incs inc pg places fine still is =
    let parts = or3_parts (is_some inc.crush) (list_any (λ sizes. nat_eq sizes.pool pg.pool) inc.sizes) (switches_any (then_with incs inc) pg (raw_places incs pg) (map (weighed incs) inc.weight)) still in
    let m = map_some (λ made. raw_set incs made pg) (pool incs pg.pool) places is in
    let made : PoolSpec = m.0 in
    let x : ℕ = placement_input made pg in
    let trees = tree-stays incs inc parts.0 in
    let now = pool-stays incs inc pg.pool fine (ap is_some m.1) parts.1 ∙ m.1 in
    let test = λ (x : ℕ) (raw : List (Option ℕ)) (old : DeviceWeight). switches x raw old.osd old.weight (weight (then_with incs inc) old.osd) in
    let none : list_any (test x places) (map (weighed incs) inc.weight) ≡ false =
    sym (ap (λ (o : Option PoolSpec). option_map_or (λ made. list_any (test (placement_input made pg) (raw_places incs pg)) (map (weighed incs) inc.weight)) o false) now
    ∙ ap (λ (o : Option (List (Option ℕ))). list_any (test x (option_map_or (λ raw. raw) o [])) (map (weighed incs) inc.weight)) is) ∙ parts.2 in
    let kept = λ (osd : ℕ). in-tables x osd (has_osd osd places) (weight incs) (weight (then_with incs inc)) (in-stays incs inc x places osd none) in
    ap (option_map (λ made. raw_set (then_with incs inc) made pg)) now
    ∙ (λ i. Some (placement (trees i) (rule_of made) (weights (then_with incs inc)) x made.size))
    ∙ ap Some (placement_of_fewer (tree incs) (rule_of made) (weights incs) (weights (then_with incs inc)) x made.size (λ osd. (kept osd).none_in)
    (λ osd there. (kept osd).none_out (stands-there osd places (subst (λ (l : List (Option ℕ)). Contains l (Some osd)) m.2 there))))
    ∙ ap Some m.2

-- of no devices none is switched
pub none-switched : (incs : List Incremental) (pg : PgId) (places : List (Option ℕ)) (before : List DeviceWeight) → length before ≡ 0 → switches_any incs pg places before ≡ false
none-switched incs pg places [] none = by_pool (pool incs pg.pool)
  where
    by_pool : (found : Option PoolSpec) → option_map_or (λ made. false) found false ≡ false
    by_pool None = refl
    by_pool (Some made) = refl
none-switched incs pg places (old ∷ before) none = absurd (omega arith)

-- none is switched where each gets lighter or stays, and none has one of the places
pub lighter-elsewhere : (incs : List Incremental) (pg : PgId) (places : List (Option ℕ)) (before : List DeviceWeight) → list_any (λ old. nat_lt old.weight (weight incs old.osd)) before ≡ false
    → list_any (λ old. has_osd old.osd places) before ≡ false → switches_any incs pg places before ≡ false
lighter-elsewhere incs pg places before falls apart = by_pool (pool incs pg.pool)
  where
    none : (x : ℕ) (l : List DeviceWeight) → list_any (λ old. nat_lt old.weight (weight incs old.osd)) l ≡ false → list_any (λ old. has_osd old.osd places) l ≡ false
        → list_any (λ old. switches x places old.osd old.weight (weight incs old.osd)) l ≡ false
    none x [] falls apart = refl
    none x (old ∷ l) falls apart =
        let one = or_parts (nat_lt old.weight (weight incs old.osd)) (list_any (λ old. nat_lt old.weight (weight incs old.osd)) l) falls in
        let two = or_parts (has_osd old.osd places) (list_any (λ old. has_osd old.osd places) l) apart in
        let here : switches x places old.osd old.weight (weight incs old.osd) ≡ false = switch_by_weight x places old.osd old.weight (weight incs old.osd) ∙ rw (one.0, two.0) refl in
        rw here (none x l one.1 two.1)

    by_pool : (found : Option PoolSpec) → option_map_or (λ made. list_any (λ old. switches (placement_input made pg) places old.osd old.weight (weight incs old.osd)) before) found false ≡ false
    by_pool None = refl
    by_pool (Some made) = none (placement_input made pg) before falls apart

pub or3_false : (a b c : Bool) → a ≡ false → b ≡ false → c ≡ false → (a || b || c) ≡ false
or3_false a b c first second third = rw (first, second) third

-- an incremental that moves no group of the pool
pub unmoved-unplaced : (incs : List Incremental) (inc : Incremental) (pg : PgId) → moves inc pg.pool ≡ false → may_place_elsewhere incs inc pg ≡ false
unmoved-unplaced incs inc pg still =
    let parts = or3_parts (is_some inc.crush) (nat_lt 0 (length inc.weight)) (list_any (λ sizes. nat_eq sizes.pool pg.pool) inc.sizes) still in
    let none : length (map (weighed incs) inc.weight) ≡ 0 = length-map inc.weight (weighed incs) ∙ grind (arith, nat_tests, parts.1) in
    or3_false (is_some inc.crush) (list_any (λ sizes. nat_eq sizes.pool pg.pool) inc.sizes) (switches_any (then_with incs inc) pg (raw_places incs pg) (map (weighed incs) inc.weight))
    parts.0 parts.2 (none-switched (then_with incs inc) pg (raw_places incs pg) (map (weighed incs) inc.weight) none)

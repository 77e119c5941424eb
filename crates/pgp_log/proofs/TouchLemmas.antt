-- What an incremental touches, and what it changes at all.
use Rattle.pgp_log.proofs.Common.{◌≡◌, ℕ, List, [], ◌++◌, Bool, true, false, not, ◌||◌, map, length, refl, sym, ap, ◌∙◌, list_any, ◌==◌, not-false, not-true, or_parts, true_from_ne_false, true≢false, list_any-append, and3_parts, Entry, DeviceEpoch, Incremental, PgId, may_place_elsewhere, untouched-unmoved, unplaced, incs_of, changed_devices, changes_pool, changes_temp, is_touched, may_lie_on, may_move, moves_all, turned_devices, changes_no_pool, changes_nothing, changes_placements, moves_none, tells_nothing, turns_none}
use Rattle.pgp_ids.specs.declared.entry.Entry.TheVariants as entry
use Rattle.pgp_group.proofs.Lists.{any-mapped}
use Rattle.pgp_lists.proofs.Lists.{empty-list}

-- one that turns a device on which the group may lie touches the group
pub lies-touches : (log : List Entry) (inc : Incremental) (pg : PgId) → list_any (may_lie_on (incs_of log) pg) (turned_devices inc) ≡ true → is_touched log (entry.Inc inc) pg ≡ true
lies-touches log inc pg lies = true_from_ne_false (is_touched log (entry.Inc inc) pg) (λ untouched.
    let parts = or_parts (may_place_elsewhere (incs_of log) inc pg || changes_pool inc pg.pool || changes_temp inc pg) (list_any (may_lie_on (incs_of log) pg) (turned_devices inc))
    (untouched-unmoved log inc pg untouched) in
    true≢false (sym lies ∙ parts.1))

-- ---- an incremental that changes the epoch alone

-- an incremental that makes no pool and changes none
pub no-pools : (inc : Incremental) → changes_no_pool inc ≡ true → (inc.pools ≡ []) × (inc.sizes ≡ []) × (inc.temp ≡ [])
no-pools inc none =
    let parts = and3_parts (length inc.pools == 0) (length inc.sizes == 0) (length inc.temp == 0) none in
    (empty-list inc.pools parts.0, empty-list inc.sizes parts.1, empty-list inc.temp parts.2)

-- or that turns no device
none-turned : (inc : Incremental) → turns_none inc ≡ true → (inc.up ≡ []) × (inc.down ≡ []) × (inc.gone ≡ [])
none-turned inc none =
    let parts = and3_parts (length inc.up == 0) (length inc.down == 0) (length inc.gone == 0) none in
    (empty-list inc.up parts.0, empty-list inc.down parts.1, empty-list inc.gone parts.2)

pub nothing-touched : (log : List Entry) (inc : Incremental) (pg : PgId) → changes_nothing inc ≡ true → is_touched log (entry.Inc inc) pg ≡ false
nothing-touched log inc pg nothing =
    let all = and3_parts (not (moves_all inc)) (changes_no_pool inc) (tells_nothing inc) nothing in
    let told = and3_parts (turns_none inc) (length inc.up_thru == 0) (length inc.lost == 0) all.2 in
    let pools = no-pools inc all.1 in
    let turned = none-turned inc told.0 in
    rw (not-true (moves_all inc) all.0, pools.0, pools.1, pools.2, turned.0, turned.1, turned.2, empty-list inc.up_thru told.1, empty-list inc.lost told.2) refl

-- an incremental that changes no placement at all changes that of no group
pub nothing-placed : (inc : Incremental) (pg : PgId) → changes_placements inc ≡ false → (moves_all inc || changes_pool inc pg.pool || changes_temp inc pg) ≡ false
nothing-placed inc pg none =
    let both = or_parts (moves_all inc) (not (changes_no_pool inc)) none in
    let pools = no-pools inc (not-false (changes_no_pool inc) both.1) in
    rw (both.0, pools.0, pools.1, pools.2) refl

-- ---- with which devices the group has to do

-- the devices that the incremental changes, part by part
pub changed-parts : (test : ℕ → Bool) (inc : Incremental)
    → (list_any test inc.up || list_any test inc.down || list_any test inc.gone || list_any (λ (told : DeviceEpoch). test told.osd) inc.up_thru || list_any (λ (told : DeviceEpoch). test told.osd) inc.lost)
    ≡ list_any test (changed_devices inc)
changed-parts test inc =
    let osd : DeviceEpoch → ℕ = λ told. told.osd in
    sym (list_any-append test (inc.up ++ inc.down ++ inc.gone ++ map osd inc.up_thru) (map osd inc.lost)
    ∙ ap (λ b. b || list_any test (map osd inc.lost)) (list_any-append test (inc.up ++ inc.down ++ inc.gone) (map osd inc.up_thru)
    ∙ ap (λ b. b || list_any test (map osd inc.up_thru)) (list_any-append test (inc.up ++ inc.down) inc.gone
    ∙ ap (λ b. b || list_any test inc.gone) (list_any-append test inc.up inc.down)))
    ∙ ap (λ b. (list_any test inc.up || list_any test inc.down || list_any test inc.gone || b) || list_any test (map osd inc.lost)) (any-mapped osd test inc.up_thru)
    ∙ ap (λ b. (list_any test inc.up || list_any test inc.down || list_any test inc.gone || list_any (λ (told : DeviceEpoch). test told.osd) inc.up_thru) || b) (any-mapped osd test inc.lost))

-- those that it boots, takes down or destroys
pub turned-parts : (test : ℕ → Bool) (inc : Incremental) → (list_any test inc.up || list_any test inc.down || list_any test inc.gone) ≡ list_any test (turned_devices inc)
turned-parts test inc =
    sym (list_any-append test (inc.up ++ inc.down) inc.gone ∙ ap (λ b. b || list_any test inc.gone) (list_any-append test inc.up inc.down))

-- ---- an incremental that moves no group

pub none-moved : (incs : List Incremental) (inc : Incremental) (pg : PgId) → moves_none inc ≡ true → may_move incs inc pg ≡ false
none-moved incs inc pg none =
    let all = and3_parts (not (moves_all inc)) (changes_no_pool inc) (turns_none inc) none in
    let pools = no-pools inc all.1 in
    let turned = none-turned inc all.2 in
    let own : changes_pool inc pg.pool ≡ false = rw (pools.0, pools.1) refl in
    rw (unplaced incs inc pg (not-true (moves_all inc) all.0) own, own, pools.2, turned.0, turned.1, turned.2) refl

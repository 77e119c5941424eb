-- What an incremental leaves as it was: devices that it doesn't name, and a group that it doesn't touch.
use Rattle.pgp_group.proofs.Common.{◌≡◌, ℕ, arith, List, [], ◌∷◌, Option, Some, None, is_some, Bool, true, false, nat_eq, nat_lt, map, length, refl, ap, ap₂, sym, ◌∙◌, subst, inl, inr, ◌⊎◌, if◌then◌else◌, Contains, filter, list_any, option_eq, option_map_or, or_parts, eqb-true, nat_tests, same_Some, first_osd, Incremental, Membership, PgId, PoolSpec, Contains-first, Contains-later, contains-any, filter-contains, map-contains, if_some, boots, takes_down, destroys, device, is_up, map_fault, then_with, pool, temp, is_same_group, may_place_elsewhere, moves, raw_set, members_with, pool_membership, primary_facts, has_osd, changed_devices, turned_devices, moves_all, changes_pool, changes_temp}
use Rattle.pgp_ids.specs.Pool.{is_kind_by_place}
use Rattle.pgp_ids.specs.declared.incremental.TempList.{TempList}
use Rattle.pgp_sets.proofs.RawSetLemmas.{raw_set-stays, unmoved-unplaced}
use Rattle.pgp_group.proofs.GrowthLemmas.{told-stays}
use Rattle.pgp_group.proofs.Lists.{none-narrower, none-append, any-mapped, last_where-none, left_new, map-agree, filter-agree}

-- ---- devices

-- the incremental doesn't name the device
record IsUntold (inc : Incremental) (osd : ℕ) : Type 0 where
  booted : boots osd inc ≡ false
  downed : takes_down osd inc ≡ false
  gone : destroys osd inc ≡ false
  thru : list_any (λ told. nat_eq told.osd osd) inc.up_thru ≡ false
  lost : list_any (λ told. nat_eq told.osd osd) inc.lost ≡ false

-- no device that the incremental boots, takes down or destroys passes the test, but this one does
unturned : (test : ℕ → Bool) (inc : Incremental) (osd : ℕ) → list_any test (turned_devices inc) ≡ false → test osd ≡ true
    → (boots osd inc ≡ false) × (takes_down osd inc ≡ false) × (destroys osd inc ≡ false)
unturned test inc osd none passes = grind (arith, nat_tests, none-append, eqb-true, none-narrower)

-- no device of the incremental passes the test, but this one does
untold : (test : ℕ → Bool) (inc : Incremental) (osd : ℕ) → list_any test (changed_devices inc) ≡ false → test osd ≡ true → IsUntold inc osd
untold test inc osd none passes = grind (arith, nat_tests, none-append, unturned, eqb-true, none-narrower, any-mapped)

-- such a device stays as it was
device-stays : (incs : List Incremental) (inc : Incremental) (osd : ℕ) → IsUntold inc osd → device (then_with incs inc) osd ≡ device incs osd
device-stays incs inc osd silent = grind (arith, last_where-none, left_new, told-stays)

pub same_device : (test : ℕ → Bool) (incs : List Incremental) (inc : Incremental) (osd : ℕ) → list_any test (changed_devices inc) ≡ false → test osd ≡ true → device (then_with incs inc) osd ≡ device incs osd
same_device test incs inc osd none passes = device-stays incs inc osd (untold test inc osd none passes)

-- what the map says of it as a primary stays, where the incremental neither boots it nor tells of its up_thru
pub facts-stay : (incs : List Incremental) (inc : Incremental) (osd : ℕ) → boots osd inc ≡ false → list_any (λ told. nat_eq told.osd osd) inc.up_thru ≡ false
    → primary_facts (then_with incs inc) (Some osd) ≡ primary_facts incs (Some osd)
facts-stay incs inc osd booted untold' = search (left_new, told-stays)

-- ---- pools and pg_temp lists

pub pool-same : (incs : List Incremental) (inc : Incremental) (id : ℕ) → changes_pool inc id ≡ false → pool (then_with incs inc) id ≡ pool incs id
pool-same incs inc id none = grind (arith, told-stays)

pub temp-same : (incs : List Incremental) (inc : Incremental) (pg : PgId) → changes_temp inc pg ≡ false → temp (then_with incs inc) pg ≡ temp incs pg
temp-same incs inc pg none = ap (λ (o : Option TempList). option_map_or (λ given. given.osds) o []) (told-stays (λ (given : TempList). is_same_group given.pg pg) (λ (i : Incremental). i.temp) incs inc none)

-- ---- devices that stand in a list

pub osd-there : (places : List (Option ℕ)) (osd : ℕ) → Contains places (Some osd) → has_osd osd places ≡ true
osd-there places osd there =
    let same : nat_eq osd osd ≡ true = grind (arith, nat_tests) in
    contains-any (option_eq nat_eq (Some osd)) places (Some osd) there same

first_osd-there : (places : List (Option ℕ)) (osd : ℕ) → first_osd places ≡ Some osd → Contains places (Some osd)
first_osd-there [] osd is = cc
first_osd-there (Some x ∷ places) osd is = Contains-first (Some x) places (Some osd) is
first_osd-there (None ∷ places) osd is = Contains-later None places (Some osd) (first_osd-there places osd is)

-- ---- the membership

-- the list without devices that aren't up
without : (ℕ → Bool) → Bool → List (Option ℕ) → List (Option ℕ)
without up by_place places =
    if by_place then map (λ place. if option_map_or up place false then place else None) places else filter (λ place. option_map_or up place false) places

-- it is the same by another test that agrees on the devices of the list
up-same : (up now : ℕ → Bool) (places : List (Option ℕ)) → ((osd : ℕ) → Contains places (Some osd) → now osd ≡ up osd)
    → (place : Option ℕ) → Contains places place → option_map_or now place false ≡ option_map_or up place false
up-same up now places same None there = refl
up-same up now places same (Some osd) there = same osd there

without-same : (up now : ℕ → Bool) (by_place : Bool) (places : List (Option ℕ)) → ((osd : ℕ) → Contains places (Some osd) → now osd ≡ up osd) → without now by_place places ≡ without up by_place places
unfolding without
without-same up now true places same = grind (arith, nat_tests, map-agree, up-same)
without-same up now false places same = search (filter-agree, up-same)

-- its devices are those of the list
without-there : (up : ℕ → Bool) (by_place : Bool) (places : List (Option ℕ)) (osd : ℕ) → Contains (without up by_place places) (Some osd) → Contains places (Some osd)
unfolding without
without-there up true places osd there =
    let m = map-contains (λ (place : Option ℕ). if option_map_or up place false then place else None) places (Some osd) there in
    subst (λ (place : Option ℕ). Contains places place) ((if_some (option_map_or up m.0 false) m.0 osd m.1.1).1) m.1.0
without-there up false places osd there = (filter-contains (λ (place : Option ℕ). option_map_or up place false) places (Some osd) there).0

-- the membership of a pool where the tree gives the first list and pg_temp the second
lies : (ℕ → Bool) → PoolSpec → List (Option ℕ) → List (Option ℕ) → Membership
lies up made raw given =
    let rest = without up (is_kind_by_place made.kind) given in
    let placed = without up (is_kind_by_place made.kind) raw in
    members_with made placed (if nat_eq (length rest) 0 then placed else rest)

membership-lies : (incs : List Incremental) (made : PoolSpec) (pg : PgId) → pool_membership incs pg made ≡ lies (is_up incs) made (raw_set incs made pg) (temp incs pg)
unfolding without lies
membership-lies incs made pg = refl

lies-same : (up now : ℕ → Bool) (made : PoolSpec) (raw given : List (Option ℕ)) → ((osd : ℕ) → Contains raw (Some osd) → now osd ≡ up osd) → ((osd : ℕ) → Contains given (Some osd) → now osd ≡ up osd)
    → lies now made raw given ≡ lies up made raw given
unfolding lies
lies-same up now made raw given placed chosen =
    cc (without-same up now (is_kind_by_place made.kind) raw placed, without-same up now (is_kind_by_place made.kind) given chosen)

-- the devices of acting stand in one of the two lists
lies-there : (up : ℕ → Bool) (made : PoolSpec) (raw given : List (Option ℕ)) (osd : ℕ) → (lies up made raw given).acting_primary ≡ Some osd → (Contains raw (Some osd)) ⊎ (Contains given (Some osd))
unfolding lies
lies-there up made raw given osd is = by_rest (nat_eq (length (without up (is_kind_by_place made.kind) given)) 0) is
  where
    by_rest : (b : Bool) → first_osd (if b then without up (is_kind_by_place made.kind) raw else without up (is_kind_by_place made.kind) given) ≡ Some osd → (Contains raw (Some osd)) ⊎ (Contains given (Some osd))
    by_rest true first = inl (without-there up (is_kind_by_place made.kind) raw osd (first_osd-there (without up (is_kind_by_place made.kind) raw) osd first))
    by_rest false first = inr (without-there up (is_kind_by_place made.kind) given osd (first_osd-there (without up (is_kind_by_place made.kind) given) osd first))

-- ---- a group of which the incremental tells nothing

-- an incremental that moves no group at large and leaves the pool alone moves none of the pool
pub unmoved-pool : (inc : Incremental) (id : ℕ) → moves_all inc ≡ false → changes_pool inc id ≡ false → moves inc id ≡ false
unmoved-pool inc id still own = grind (arith, or_parts (nat_lt 0 (length inc.weight)) (is_some inc.crush) still)

pub unplaced : (incs : List Incremental) (inc : Incremental) (pg : PgId) → moves_all inc ≡ false → changes_pool inc pg.pool ≡ false → may_place_elsewhere incs inc pg ≡ false
unplaced incs inc pg still own = unmoved-unplaced incs inc pg (unmoved-pool inc pg.pool still own)

-- the tree puts the group nowhere else by the incremental, which changes neither its pool nor its pg_temp list
pub record IsLeft (incs : List Incremental) (inc : Incremental) (pg : PgId) : Type 0 where
  pub still : may_place_elsewhere incs inc pg ≡ false
  pub pool : changes_pool inc pg.pool ≡ false
  pub temp : changes_temp inc pg ≡ false

raw-same : (incs : List Incremental) (inc : Incremental) (pg : PgId) (made : PoolSpec) → map_fault incs inc ≡ None → IsLeft incs inc pg → pool incs pg.pool ≡ Some made → raw_set (then_with incs inc) made pg ≡ raw_set incs made pg
raw-same incs inc pg made fine left is = grind (arith, nat_tests, pool-same, same_Some, raw_set-stays)

-- the devices on which the group lies, or may lie by pg_temp, stay as they were
pub record DevicesStay (incs : List Incremental) (inc : Incremental) (pg : PgId) (made : PoolSpec) : Type 0 where
  pub placed : (osd : ℕ) → has_osd osd (raw_set incs made pg) ≡ true → device (then_with incs inc) osd ≡ device incs osd
  pub given : (osd : ℕ) → has_osd osd (temp incs pg) ≡ true → device (then_with incs inc) osd ≡ device incs osd

-- those that are up stay up, and the others don't boot
pub record UpsStay (incs : List Incremental) (inc : Incremental) (pg : PgId) (made : PoolSpec) : Type 0 where
  pub placed : (osd : ℕ) → has_osd osd (raw_set incs made pg) ≡ true → is_up (then_with incs inc) osd ≡ is_up incs osd
  pub given : (osd : ℕ) → has_osd osd (temp incs pg) ≡ true → is_up (then_with incs inc) osd ≡ is_up incs osd

pub ups-stay : (incs : List Incremental) (inc : Incremental) (pg : PgId) (made : PoolSpec) → DevicesStay incs inc pg made → UpsStay incs inc pg made
ups-stay incs inc pg made stay = grind arith

-- a device that passes the test, while none does that the incremental boots, takes down or destroys
pub same_up : (test : ℕ → Bool) (incs : List Incremental) (inc : Incremental) (osd : ℕ) → list_any test (turned_devices inc) ≡ false → test osd ≡ true → is_up (then_with incs inc) osd ≡ is_up incs osd
same_up test incs inc osd none passes = grind (arith, nat_tests, unturned, last_where-none)

pub members-same : (incs : List Incremental) (inc : Incremental) (pg : PgId) (made : PoolSpec) → map_fault incs inc ≡ None → IsLeft incs inc pg → pool incs pg.pool ≡ Some made → UpsStay incs inc pg made
    → pool_membership (then_with incs inc) pg made ≡ pool_membership incs pg made
members-same incs inc pg made fine left is stay =
    membership-lies (then_with incs inc) made pg
    ∙ ap₂ (lies (is_up (then_with incs inc)) made) (raw-same incs inc pg made fine left is) (temp-same incs inc pg left.temp)
    ∙ lies-same (is_up incs) (is_up (then_with incs inc)) made (raw_set incs made pg) (temp incs pg)
    (λ osd there. stay.placed osd (osd-there (raw_set incs made pg) osd there))
    (λ osd there. stay.given osd (osd-there (temp incs pg) osd there))
    ∙ sym (membership-lies incs made pg)

-- who leads is one of these devices
pub leader-same : (incs : List Incremental) (inc : Incremental) (pg : PgId) (made : PoolSpec) (osd : ℕ) → DevicesStay incs inc pg made → (pool_membership incs pg made).acting_primary ≡ Some osd → device (then_with incs inc) osd ≡ device incs osd
leader-same incs inc pg made osd stay leads =
    let leads' : (lies (is_up incs) made (raw_set incs made pg) (temp incs pg)).acting_primary ≡ Some osd = ap (λ (m : Membership). m.acting_primary) (sym (membership-lies incs made pg)) ∙ leads in
    elim (lies-there (is_up incs) made (raw_set incs made pg) (temp incs pg) osd leads') [
      | inl placed ↦ stay.placed osd (osd-there (raw_set incs made pg) osd placed)
      | inr given ↦ stay.given osd (osd-there (temp incs pg) osd given)
    ]

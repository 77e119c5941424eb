-- What holds of a list of incrementals, each of which was checked when it came.
use Rattle.std.proofs.Common.{◌≡◌, ℕ, ◌≤◌, List, ◌++◌, Option, Some, None, is_none, is_some, true, false, not, ◌&&◌, nat_eq, refl, ap, sym, ◌∙◌, subst, arith}
use Rattle.std.specs.List.{list_any}
use Rattle.std.specs.Option.{option_map, option_map_or}
use Rattle.std.specs.Prelude.{nat_lt}
use Rattle.std.proofs.lemmas.Bool.{eqb-true, ltb-false, and_parts}
use Rattle.std.proofs.lemmas.Option.{same_Some}
use Rattle.pgp_ids.specs.Parts.{are_parts}
use Rattle.pgp_ids.specs.Pool.{is_kind_by_place}
use Rattle.pgp_ids.specs.declared.incremental.DeviceEpoch.{DeviceEpoch}
use Rattle.pgp_ids.specs.declared.incremental.Incremental.{Incremental}
use Rattle.pgp_ids.specs.declared.pg_id.PgId.{PgId}
use Rattle.pgp_ids.specs.declared.part.Part.{Part}
use Rattle.pgp_ids.specs.declared.pool.PoolKind.{PoolKind}
use Rattle.pgp_ids.specs.declared.pool.PoolKind.TheVariants.{Erasure, Grouped}
use Rattle.pgp_ids.specs.declared.pool.PoolSizes.{PoolSizes}
use Rattle.pgp_ids.specs.declared.pool.PoolSpec.{PoolSpec}
use Rattle.pgp_map.specs.declared.map.OsdMap.{OsdMap}
use Rattle.pgp_map.specs.Checked.{is_faultless, are_checked}
use Rattle.pgp_map.specs.Devices.{up_thru}
use Rattle.pgp_map.specs.Held.{is_group_of, HasGroup}
use Rattle.pgp_map.specs.HeldLaws.{held_pool-is}
use Rattle.pgp_lists.specs.Last.{last_where}
use Rattle.pgp_map.specs.MapFault.{map_fault, then_with, is_from_one_to, are_sizes, is_kind, is_pool}
use Rattle.pgp_map.specs.MapOf.{IsMapOf}
use Rattle.pgp_map.specs.Pools.{pool, with_sizes, has_group}
use Rattle.pgp_lists.proofs.Last.{last_where-some}
use Rattle.pgp_lists.proofs.Options.{none_is}
use Rattle.pgp_lists.proofs.Taken.{taken-along, taken-front, taken-induction, taken-last, taken-more}
use Rattle.pgp_map.proofs.DeviceLemmas.{told-push}
use Rattle.pgp_map.proofs.FaultLemmas.{no_fault}
use Rattle.pgp_map.proofs.MapLemmas.{IsUnsized, nothing, last_passes, pool-cases, sizes-push}

-- ---- lists that grow

pub front-checked : (incs later : List Incremental) → are_checked (incs ++ later) ≡ true → are_checked incs ≡ true
front-checked incs later checked = taken-front is_faultless incs later checked

pub last-checked : (incs : List Incremental) (inc : Incremental) → are_checked (then_with incs inc) ≡ true → map_fault incs inc ≡ None
last-checked incs inc checked = none_is (map_fault incs inc) (taken-last is_faultless incs inc checked)

pub checked-more : (incs : List Incremental) (inc : Incremental) → are_checked incs ≡ true → map_fault incs inc ≡ None → are_checked (then_with incs inc) ≡ true
checked-more incs inc checked fine = taken-more is_faultless incs inc checked (ap is_none fine)

-- ---- pools in range

-- a pool that isn't there was given no sizes, and the others are in range
record InRange (incs : List Incremental) : Type 0 where
  unsized : (id : ℕ) → IsUnsized incs id
  each : (id : ℕ) (made : PoolSpec) → pool incs id ≡ Some made → is_pool made ≡ true

-- sizes that a pool can change to leave it in range
resized : (made : PoolSpec) (sizes : PoolSizes) → is_pool made ≡ true → are_sizes sizes.size sizes.min_size ≡ true
    → (is_kind_by_place made.kind && not (nat_eq made.size sizes.size)) ≡ false → is_pool (with_sizes (Some sizes) made) ≡ true
resized made sizes fits good kept = grind (arith, eqb-true)

more-in_range : (incs : List Incremental) (inc : Incremental) → InRange incs → map_fault incs inc ≡ None → InRange (then_with incs inc)
more-in_range incs inc before none =
    let fine = no_fault incs inc none in
    record {
      unsized = λ id. sizes-push incs inc id fine (before.unsized id);
      each = λ id made. pool-cases (λ now. now ≡ Some made → is_pool made ≡ true) incs inc id fine (before.unsized id) record {
        made = λ new absent fits is. ap is_pool (sym (same_Some new made is)) ∙ fits;
        sized = λ old sizes was given good same is. ap is_pool (sym (same_Some (with_sizes (Some sizes) old) made is)) ∙ resized old sizes (before.each id old was) good same;
        stays = λ none. before.each id made;
      };
    }

all-in_range : (incs : List Incremental) → are_checked incs ≡ true → InRange incs
all-in_range incs checked =
    taken-induction is_faultless InRange record { unsized = λ id none. refl; each = λ id made is. cc }
    (λ front inc taken fine before. more-in_range front inc before (none_is (map_fault front inc) fine)) incs checked

-- each pool of the map is in range
pub pools-in_range : (incs : List Incremental) (id : ℕ) (made : PoolSpec) → are_checked incs ≡ true → pool incs id ≡ Some made → is_pool made ≡ true
pools-in_range incs id made checked is = (all-in_range incs checked).each id made is

grouped : (found : Option PoolSpec) (pg : PgId) → ((made : PoolSpec) → found ≡ Some made → is_pool made ≡ true)
    → option_map_or (λ made. nat_lt pg.pg made.pg_num) found false ≡ true → option_map_or (is_group_of pg) found false ≡ true
grouped found pg fits has = grind (arith, fits)

-- the map has each group that its incrementals give it
pub checked-has_group : (incs : List Incremental) (map : OsdMap) (pg : PgId) → IsMapOf incs map → are_checked incs ≡ true → has_group incs pg ≡ true → HasGroup map pg
checked-has_group incs map pg is checked has =
    ap (λ (found : Option PoolSpec). option_map_or (is_group_of pg) found false) (held_pool-is incs map is pg.pool)
    ∙ grouped (pool incs pg.pool) pg (λ made found. pools-in_range incs pg.pool made checked found) has

-- ---- what never falls, and what stays

-- an up_thru that is told isn't below the one before
up_thru_higher : (old : ℕ) (found : Option DeviceEpoch) → ((told : DeviceEpoch) → found ≡ Some told → nat_lt told.epoch old ≡ false) → old ≤ option_map_or (λ entry. entry.epoch) found old
up_thru_higher old None higher = omega arith
up_thru_higher old (Some told) higher = ltb-false told.epoch old (higher told refl)

pub up_thru-more : (incs : List Incremental) (inc : Incremental) (osd : ℕ) → map_fault incs inc ≡ None → up_thru incs osd ≤ up_thru (then_with incs inc) osd
up_thru-more incs inc osd none =
    subst (λ new. up_thru incs osd ≤ new) (sym (told-push (λ entry. entry.epoch) (λ entry. nat_eq entry.osd osd) (λ inc. inc.up_thru) incs inc 0))
    (up_thru_higher (up_thru incs osd) (last_where (λ entry. nat_eq entry.osd osd) inc.up_thru)
    (λ told. last_passes (λ entry. entry.osd) (λ q entry. nat_lt entry.epoch (up_thru incs q)) inc.up_thru osd told (no_fault incs inc none).up_thru))

pub up_thru-rises : (incs later : List Incremental) (osd : ℕ) → are_checked (incs ++ later) ≡ true → up_thru incs osd ≤ up_thru (incs ++ later) osd
up_thru-rises incs later osd checked =
    taken-along is_faultless (λ now. up_thru incs osd ≤ up_thru now osd)
    (λ front inc taken fine before. let more = up_thru-more front inc osd (none_is (map_fault front inc) fine) in omega (arith, before, more))
    incs later checked (omega arith)

-- a pool that is there stays, where it is given no sizes
pub pool-stays : (incs : List Incremental) (inc : Incremental) (id : ℕ) → map_fault incs inc ≡ None → is_some (pool incs id) ≡ true
    → list_any (λ sizes. nat_eq sizes.pool id) inc.sizes ≡ false → pool (then_with incs inc) id ≡ pool incs id
pool-stays incs inc id fine there unsized =
    let none = nothing (last_where (λ sizes. nat_eq sizes.pool id) inc.sizes) (last_where-some (λ sizes. nat_eq sizes.pool id) inc.sizes ∙ unsized) in
    pool-cases (λ now. now ≡ pool incs id) incs inc id (no_fault incs inc fine) (λ absent. let no : is_some (pool incs id) ≡ false = ap is_some absent in cc) record {
      made = λ made absent fits. let no : is_some (pool incs id) ≡ false = ap is_some absent in cc;
      sized = λ before sizes was given good same. cc;
      stays = λ is. refl;
    }

-- a pool is there, of this kind and size
record IsSized (kind : PoolKind) (size : ℕ) (found : Option PoolSpec) : Type 0 where
  kind_is : option_map (λ made. made.kind) found ≡ Some kind
  size_is : option_map (λ made. made.size) found ≡ Some size

-- what a pool can be given in which each member has a place of its own is its own size
keeps_size : (kind : PoolKind) (size : ℕ) (old : PoolSpec) (sizes : PoolSizes) → is_kind_by_place kind ≡ true → IsSized kind size (Some old)
    → (is_kind_by_place old.kind && not (nat_eq old.size sizes.size)) ≡ false → IsSized kind size (Some (with_sizes (Some sizes) old))
keeps_size kind size old sizes placed is kept =
    let by_place : is_kind_by_place old.kind ≡ true = ap is_kind_by_place (same_Some old.kind kind is.kind_is) ∙ placed in
    record { kind_is = is.kind_is; size_is = grind (arith, eqb-true) }

sized-more : (kind : PoolKind) (size id : ℕ) → is_kind_by_place kind ≡ true → (incs : List Incremental) (inc : Incremental) → InRange incs → map_fault incs inc ≡ None
    → IsSized kind size (pool incs id) → IsSized kind size (pool (then_with incs inc) id)
sized-more kind size id placed incs inc ranges none before =
    pool-cases (IsSized kind size) incs inc id (no_fault incs inc none) (ranges.unsized id) record {
      made = λ made absent fits. let gone = subst (IsSized kind size) absent before in absurd (cc gone.kind_is);
      sized = λ old sizes was given good same. keeps_size kind size old sizes placed (subst (IsSized kind size) was before) same;
      stays = λ is. before;
    }

-- a pool in which each member has a place of its own keeps its size
pub sizes-stay : (incs later : List Incremental) (id : ℕ) (made : PoolSpec) → are_checked (incs ++ later) ≡ true → pool incs id ≡ Some made → is_kind_by_place made.kind ≡ true
    → option_map (λ now. now.size) (pool (incs ++ later) id) ≡ Some made.size
sizes-stay incs later id made checked there placed =
    (taken-along is_faultless (λ now. IsSized made.kind made.size (pool now id))
    (λ front inc taken fine. sized-more made.kind made.size id placed front inc (all-in_range front taken) (none_is (map_fault front inc) fine)) incs later checked
    record { kind_is = ap (option_map (λ (now : PoolSpec). now.kind)) there; size_is = ap (option_map (λ (now : PoolSpec). now.size)) there }).size_is

pub shards-stay : (incs later : List Incremental) (id k : ℕ) (made : PoolSpec) → are_checked (incs ++ later) ≡ true → pool incs id ≡ Some made → made.kind ≡ Erasure k
    → option_map (λ now. now.size) (pool (incs ++ later) id) ≡ Some made.size
shards-stay incs later id k made checked there kind = sizes-stay incs later id made checked there (ap is_kind_by_place kind)

-- a grouped pool's size allows its parts for ever
pub parts-stay : (incs later : List Incremental) (id : ℕ) (groups : List (Option Part)) (made : PoolSpec) → are_checked (incs ++ later) ≡ true → pool incs id ≡ Some made
    → made.kind ≡ Grouped groups → option_map_or (λ now. are_parts now.size groups) (pool (incs ++ later) id) false ≡ true
parts-stay incs later id groups made checked there kind =
    let ranges = pools-in_range incs id made (front-checked incs later checked) there in
    let fits : is_kind made.kind made.size ≡ true = (and_parts (is_from_one_to 1024 made.pg_num && are_sizes made.size made.min_size) (is_kind made.kind made.size) ranges).1 in
    by_size (pool (incs ++ later) id) (sizes-stay incs later id made checked there (ap is_kind_by_place kind)) (ap (λ kind. is_kind kind made.size) (sym kind) ∙ fits)
  where
    by_size : (found : Option PoolSpec) → option_map (λ now. now.size) found ≡ Some made.size → are_parts made.size groups ≡ true
        → option_map_or (λ now. are_parts now.size groups) found false ≡ true
    by_size None same fits = cc
    by_size (Some now) same fits = ap (λ size. are_parts size groups) (same_Some now.size made.size same) ∙ fits

-- what the laws say
pub ruleset checked_laws = (front-checked, last-checked, checked-more, up_thru-rises, shards-stay, sizes-stay, parts-stay, pools-in_range, checked-has_group)

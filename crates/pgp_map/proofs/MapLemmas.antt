-- What an incremental changes of a map.
use Rattle.std.proofs.Common.{◌≡◌, ◌≤◌, ◌+◌, ◌-◌, ◌^◌, ℕ, List, [], ◌∷◌, Bool, true, false, not, refl, ap, sym, subst, ◌∙◌, map, min, length, arith}
use Rattle.std.specs.Prelude.{Option, Some, None, is_some, nat_eq, flat_map, option_map, sum_by, ◌&&◌, ◌||◌}
use Rattle.std.specs.List.{list_any}
use Rattle.std.specs.Option.{option_map_or, option_or}
use Rattle.std.proofs.lemmas.Bool.{eqb-true, not-false, or_parts}
use Rattle.std.proofs.lemmas.List.{take_all}
use Rattle.std.proofs.lemmas.List.Elements.{filter_map-append}
use Rattle.std.proofs.lemmas.List.Sums.{sum_by-append}
use Rattle.pgp_crush.specs.Bucket.{bucket_of}
use Rattle.pgp_ids.specs.Pool.{is_kind_by_place}
use Rattle.pgp_ids.specs.declared.incremental.DeviceWeight.{DeviceWeight}
use Rattle.pgp_ids.specs.declared.incremental.Incremental.{Incremental}
use Rattle.pgp_ids.specs.declared.incremental.TempList.{TempList}
use Rattle.pgp_ids.specs.declared.pg_id.PgId.{PgId}
use Rattle.pgp_ids.specs.declared.pool.PoolSizes.{PoolSizes}
use Rattle.pgp_ids.specs.declared.pool.PoolSpec.{PoolSpec}
use Rattle.pgp_map.specs.Devices.{weight}
use Rattle.pgp_lists.specs.Last.{last_where}
use Rattle.pgp_map.specs.Map.{epoch, tree}
use Rattle.pgp_map.specs.MapFault.{then_with, has_pool_known, is_bad_list, is_bad_temp, are_bad_sizes, are_sizes, is_pool}
use Rattle.pgp_map.specs.Pools.{pool, temp, with_sizes, group_count, is_same_group}
use Rattle.pgp_tables.specs.PoolTable.{or_made}
use Rattle.pgp_tables.specs.TempTable.{with_temp}
use Rattle.pgp_map.specs.WeightTable.{with_weight}
use Rattle.pgp_map.proofs.DeviceLemmas.{last-push, told-push}
use Rattle.pgp_lists.proofs.Bools.{or3_parts}
use Rattle.pgp_lists.proofs.Lists.{flat_map-push}
use Rattle.pgp_map.proofs.FaultLemmas.{NoFault}
use Rattle.pgp_lists.proofs.Last.{last_or-append, last_found}

pub epoch-push : (incs : List Incremental) (inc : Incremental) → epoch (then_with incs inc) ≡ inc.epoch
epoch-push incs inc = ap (λ (o : Option Incremental). option_map_or (λ i. i.epoch) o 0) (last_or-append None incs (inc ∷ []))

pub weight-push : (incs : List Incremental) (inc : Incremental) (osd : ℕ)
    → weight (then_with incs inc) osd ≡ with_weight (last_where (λ entry. nat_eq entry.osd osd) inc.weight) (weight incs osd)
weight-push incs inc osd =
    let told = told-push (λ (entry : DeviceWeight). entry.weight) (λ entry. nat_eq entry.osd osd) (λ inc. inc.weight) incs inc 65536 in
    grind (arith, told)

-- the sizes and the spec that are given last of a pool
abbrev pub sizes_in : List PoolSizes → ℕ → Option PoolSizes
sizes_in given id = last_where (λ sizes. nat_eq sizes.pool id) given

abbrev pub made_in : List PoolSpec → ℕ → Option PoolSpec
made_in given id = last_where (λ made. nat_eq made.id id) given

-- a pool that isn't there was given no sizes
abbrev pub IsUnsized : List Incremental → ℕ → Type 0
IsUnsized incs id = pool incs id ≡ None → sizes_in (flat_map (λ inc. inc.sizes) incs) id ≡ None

-- what isn't some is none
pub nothing : {X : Type 0} (o : Option X) → is_some o ≡ false → o ≡ None
nothing o e = grind arith

-- what is found last of a key doesn't fail a test by that key, where nothing fails it by its own
pub last_passes : {X : Type 0} (key : X → ℕ) (fails : ℕ → X → Bool) (xs : List X) (id : ℕ) (x : X) → list_any (λ x. fails (key x) x) xs ≡ false
    → last_where (λ x. nat_eq (key x) id) xs ≡ Some x → fails id x ≡ false
last_passes key fails xs id x none found =
    let is = last_found (λ x. fails (key x) x) (λ x. nat_eq (key x) id) xs x none found in
    subst (λ n. fails n x ≡ false) (eqb-true (key x) id is.0) is.1

pub pool-push : (incs : List Incremental) (inc : Incremental) (id : ℕ) → has_pool_known incs inc ≡ false → IsUnsized incs id
    → pool (then_with incs inc) id ≡ option_map (with_sizes (sizes_in inc.sizes id)) (or_made (made_in inc.pools id) (pool incs id))
pool-push incs inc id known unsized =
    (λ i. option_map (with_sizes (last-push (λ sizes. nat_eq sizes.pool id) (λ inc. inc.sizes) incs inc i)) (last-push (λ made. nat_eq made.id id) (λ inc. inc.pools) incs inc i))
    ∙ joined (sizes_in inc.sizes id) (sizes_in (flat_map (λ inc. inc.sizes) incs) id) (made_in inc.pools id) (made_in (flat_map (λ inc. inc.pools) incs) id)
    (λ made e. unsized (nothing (pool incs id) (last_passes (λ made. made.id) (λ n _. is_some (pool incs n)) inc.pools id made known e)))
  where
    joined : (z s : Option PoolSizes) (m p : Option PoolSpec) → ((made : PoolSpec) → m ≡ Some made → s ≡ None)
        → option_map (with_sizes (option_or z s)) (option_or m p) ≡ option_map (with_sizes z) (or_made m (option_map (with_sizes s) p))
    joined z s m p unsized = grind (arith, unsized)

-- the three ways to a new pool, by the sizes that it is given and the pool before: it is made, is given sizes, or stays
pub record HoldsOfNew (P : Option PoolSpec → Type 0) (given : Option PoolSizes) (old : Option PoolSpec) : Type 0 where
  pub made : (made : PoolSpec) → old ≡ None → is_pool made ≡ true → P (Some made)
  pub sized : (before : PoolSpec) (sizes : PoolSizes) → old ≡ Some before → given ≡ Some sizes → are_sizes sizes.size sizes.min_size ≡ true
      → (is_kind_by_place before.kind && not (nat_eq before.size sizes.size)) ≡ false → P (Some (with_sizes (Some sizes) before))
  pub stays : given ≡ None → P old

-- what isn't fine of sizes for the pool that is there
abbrev are_bad_for : PoolSizes → Option PoolSpec → Bool
are_bad_for sizes old = not (are_sizes sizes.size sizes.min_size) || option_map_or (λ made. is_kind_by_place made.kind && not (nat_eq made.size sizes.size)) old true

-- what holds in each of these ways holds of the new pool
by_entries : (P : Option PoolSpec → Type 0) (z : Option PoolSizes) (m old : Option PoolSpec)
    → ((made : PoolSpec) → m ≡ Some made → is_pool made ≡ true) → ((made : PoolSpec) → m ≡ Some made → is_some old ≡ false)
    → ((sizes : PoolSizes) → z ≡ Some sizes → are_bad_for sizes old ≡ false) → HoldsOfNew P z old → P (option_map (with_sizes z) (or_made m old))
by_entries P None None None fits new fine holds = holds.stays refl
by_entries P None None (Some p) fits new fine holds = holds.stays refl
by_entries P None (Some m) None fits new fine holds = holds.made m refl (fits m refl)
by_entries P (Some s) None (Some p) fits new fine holds =
    let both = or_parts (not (are_sizes s.size s.min_size)) (is_kind_by_place p.kind && not (nat_eq p.size s.size)) (fine s refl) in
    holds.sized p s refl refl (not-false (are_sizes s.size s.min_size) both.0) both.1
by_entries P (Some s) m None fits new fine holds = let both = or_parts (not (are_sizes s.size s.min_size)) true (fine s refl) in absurd (cc both.1)
by_entries P z (Some m) (Some p) fits new fine holds = let no : true ≡ false = new m refl in absurd (cc)

pub pool-cases : (P : Option PoolSpec → Type 0) (incs : List Incremental) (inc : Incremental) (id : ℕ) → NoFault incs inc → IsUnsized incs id
    → HoldsOfNew P (sizes_in inc.sizes id) (pool incs id) → P (pool (then_with incs inc) id)
pool-cases P incs inc id fine unsized holds =
    let good = or3_parts (list_any (λ made. not (is_pool made)) inc.pools) (list_any (are_bad_sizes incs) inc.sizes) _ fine.pools in
    subst P (sym (pool-push incs inc id fine.known unsized))
    (by_entries P (sizes_in inc.sizes id) (made_in inc.pools id) (pool incs id)
    (λ made e. not-false (is_pool made) (last_passes (λ made. made.id) (λ _ made. not (is_pool made)) inc.pools id made good.0 e))
    (λ made e. last_passes (λ made. made.id) (λ n _. is_some (pool incs n)) inc.pools id made fine.known e)
    (λ sizes e. last_passes (λ sizes. sizes.pool) (λ n sizes. are_bad_for sizes (pool incs n)) inc.sizes id sizes good.1 e) holds)

pub sizes-push : (incs : List Incremental) (inc : Incremental) (id : ℕ) → NoFault incs inc → IsUnsized incs id → IsUnsized (then_with incs inc) id
sizes-push incs inc id fine unsized =
    pool-cases (λ now. now ≡ None → sizes_in (flat_map (λ inc. inc.sizes) (then_with incs inc)) id ≡ None) incs inc id fine unsized record {
      made = λ made absent fits none. cc;
      sized = λ before sizes was given good same none. cc;
      stays = λ is absent. last-push (λ sizes. nat_eq sizes.pool id) (λ inc. inc.sizes) incs inc ∙ (λ i. option_or (is i) (unsized absent i));
    }

pub temp-push : (incs : List Incremental) (inc : Incremental) (pg : PgId) → NoFault incs inc
    → temp (then_with incs inc) pg ≡ with_temp (last_where (λ given. is_same_group given.pg pg) inc.temp) (temp incs pg)
temp-push incs inc pg fine =
    told-push (λ given. given.osds) (λ given. is_same_group given.pg pg) (λ inc. inc.temp) incs inc []
    ∙ is (last_where (λ given. is_same_group given.pg pg) inc.temp) (temp incs pg)
    (λ given e. short (pool (then_with incs inc) given.pg.pool) given (last_found (is_bad_temp (then_with incs inc)) (λ given. is_same_group given.pg pg) inc.temp given fine.temps e).1)
  where
    short : (found : Option PoolSpec) (given : TempList) → is_bad_list found given ≡ false → length given.osds ≤ 16
    short found given good = grind arith

    is : (o : Option TempList) (d : List (Option ℕ)) → ((given : TempList) → o ≡ Some given → length given.osds ≤ 16)
        → option_map_or (λ given. given.osds) o d ≡ with_temp o d
    is None d whole = refl
    is (Some given) d whole = sym (take_all 16 given.osds (whole given refl))

pub count-push : (incs : List Incremental) (inc : Incremental) → NoFault incs inc
    → min (group_count incs + min (sum_by (λ made. made.pg_num) inc.pools) (2 ^ 32 - 1)) (2 ^ 32 - 1) ≡ group_count (then_with incs inc)
count-push incs inc fine =
    let both : group_count (then_with incs inc) ≡ group_count incs + sum_by (λ made. made.pg_num) inc.pools = simp (flat_map-push, sum_by-append) in
    grind (arith, both)

pub tree-push : (incs : List Incremental) (inc : Incremental) → tree (then_with incs inc) ≡ option_or (option_map (map bucket_of) inc.crush) (tree incs)
tree-push incs inc = grind (arith, filter_map-append, last_or-append)

-- What a set has into which the epochs are put in which intervals begin that matter.
use Rattle.pgp_group.proofs.Common.{◌≡◌, ℕ, ◌+◌, ◌<◌, List, [], ◌∷◌, ◌++◌, true, false, ◌||◌, nat_eq, nat_lt, Option, Some, None, is_some, refl, ap, sym, ◌∙◌, subst, Contains, flat_map, take, range_with_len, option_map, option_map_or, list_any-append, flat_map-push, Contains-nil, contains-flat_map, contains-map, flat_map-contains, last_where-found, eqb-true, true≢false, Entry, Incremental, PgId, PoolSpec, has_group, incs_of, last_where, scratch, with_sizes}
use Rattle.std.specs.Cmp.{unsigned_Decides}
use Rattle.std.specs.Set.{IsUnion, is_member}
use Rattle.std.proofs.lemmas.Bool.{ltb-true}
use Rattle.std.proofs.lemmas.Map.Made.{is_member-Decides}
use Rattle.pgp_ids.specs.declared.pool.PoolSizes.{PoolSizes}
use Rattle.pgp_ids.specs.declared.view.View.{View}
use Rattle.pgp_lists.proofs.Bools.{same_tests}
use Rattle.pgp_lists.proofs.Ranges.{range-contains}
use Rattle.pgp_group.proofs.GrowthLemmas.{groups-sized}
use Rattle.pgp_group.proofs.ViewLemmas.{scratch_there}
use Rattle.pgp_join.specs.Bound.{begun_in, epochs_begun, first_epochs, groups_made}

-- ---- putting keys into a set

-- the keys of one item more
pub members-more : {X : Type 0} (f : X → List ℕ) (xs : List X) (i : ℕ) (x : X) (old new : List ℕ) → take (i + 1) xs ≡ take i xs ++ x ∷ []
    → ((q : ℕ) → is_member nat_eq old q ≡ is_member nat_eq (flat_map f (take i xs)) q) → IsUnion nat_eq old (f x) new
    → (q : ℕ) → is_member nat_eq new q ≡ is_member nat_eq (flat_map f (take (i + 1) xs)) q
members-more f xs i x old new more has put q =
    put q ∙ ap (λ b. b || is_member nat_eq (f x) q) (has q) ∙ sym (list_any-append (nat_eq q) (flat_map f (take i xs)) (f x))
    ∙ ap (λ l. is_member nat_eq l q) (sym (flat_map-push f (take i xs) x) ∙ ap (flat_map f) (sym more))

-- ---- the groups of the pools that were made

-- each group of the map is one of a pool that was made
group-made : (incs : List Incremental) (pg : PgId) → has_group incs pg ≡ true → Contains (flat_map groups_made (flat_map (λ inc. inc.pools) incs)) pg
group-made incs pg has = by (last_where (λ (made : PoolSpec). nat_eq made.id pg.pool) (flat_map (λ (inc : Incremental). inc.pools) incs)) refl has where
  by : (made : Option PoolSpec) → last_where (λ (made : PoolSpec). nat_eq made.id pg.pool) (flat_map (λ (inc : Incremental). inc.pools) incs) ≡ made
      → option_map_or (λ (made : PoolSpec). nat_lt pg.pg made.pg_num) (option_map (with_sizes (last_where (λ (sizes : PoolSizes). nat_eq sizes.pool pg.pool) (flat_map (λ (inc : Incremental). inc.sizes) incs))) made) false ≡ true
      → Contains (flat_map groups_made (flat_map (λ (inc : Incremental). inc.pools) incs)) pg
  by None is lacks = absurd (true≢false (sym lacks))
  by (Some made) is under =
      let pools = flat_map (λ (inc : Incremental). inc.pools) incs in
      let found = last_where-found (λ (made : PoolSpec). nat_eq made.id pg.pool) pools made is in
      let id : made.id ≡ pg.pool = eqb-true made.id pg.pool found.1 in
      let sizes = last_where (λ (sizes : PoolSizes). nat_eq sizes.pool pg.pool) (flat_map (λ (inc : Incremental). inc.sizes) incs) in
      let below : pg.pg < made.pg_num = ltb-true pg.pg made.pg_num (ap (nat_lt pg.pg) (sym (groups-sized sizes made)) ∙ under) in
      let its : Contains (groups_made made) (record { pool = made.id; pg = pg.pg }) =
      contains-map {Y = PgId} (λ number. record { pool = made.id; pg = number }) (range_with_len 0 made.pg_num) pg.pg (range-contains made.pg_num pg.pg below) in
      contains-flat_map groups_made pools made pg found.0 (subst (λ (id : ℕ). Contains (groups_made made) (record { pool = id; pg = pg.pg })) id its)

-- ---- the epochs in which intervals begin that matter

begun-there : (log : List Entry) (pg : PgId) (q : ℕ) → Contains (begun_in log pg) q → has_group (incs_of log) pg ≡ true
begun-there log pg q begun = sym (scratch_there log pg) ∙ some (scratch log pg) begun where
  some : (view : Option View) → Contains (option_map_or first_epochs view []) q → is_some view ≡ true
  some None begun = absurd (Contains-nil q begun)
  some (Some view) begun = refl

begun-among : (log : List Entry) (groups others : List PgId) (q : ℕ) → ((pg : PgId) → has_group (incs_of log) pg ≡ true → Contains others pg)
    → is_member nat_eq (flat_map (begun_in log) groups) q ≡ true → is_member nat_eq (flat_map (begun_in log) others) q ≡ true
begun-among log groups others q has begun =
    let at = flat_map-contains (begun_in log) groups q ((is_member-Decides unsigned_Decides (flat_map (begun_in log) groups) q).0 begun) in
    (is_member-Decides unsigned_Decides (flat_map (begun_in log) others) q).1
    (contains-flat_map (begun_in log) others at.0 q (has at.0 (begun-there log at.0 q at.1.1)) at.1.1)

-- they are those of any groups among which each group of the map is
pub epochs_begun-by : (log : List Entry) (groups : List PgId) → ((pg : PgId) → has_group (incs_of log) pg ≡ true → Contains groups pg) → (q : ℕ)
    → is_member nat_eq (flat_map (begun_in log) groups) q ≡ is_member nat_eq (epochs_begun log) q
epochs_begun-by log groups has q =
    let all = flat_map groups_made (flat_map (λ (inc : Incremental). inc.pools) (incs_of log)) in
    same_tests (is_member nat_eq (flat_map (begun_in log) groups) q) (is_member nat_eq (epochs_begun log) q)
    (begun-among log groups all q (group-made (incs_of log))) (begun-among log all groups q has)

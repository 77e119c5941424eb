-- The history of a group has a state for each epoch, from the one that made its pool on.
use Rattle.pgp_group.proofs.Common.{◌≡◌, ℕ, zero, suc, ◌+◌, ◌-◌, ◌<◌, ◌≤◌, List, Option, Some, None, is_some, Bool, true, false, nat_eq, nat_le, length, refl, ap, sym, ◌∙◌, arith, if◌then◌else◌, Contains, filter_map, flat_map, list_any, range_with_len, slice_get, option_map, option_map_or, same_Some, nat_tests, AnyCode, Incremental, PgId, PoolSpec, History, last_where, epoch, up_to, pool, has_group, last_where-some, last_where-found, any-contains, contains-any, contains-filter, contains-flat_map, flat_map-contains, some_is, some_mapped, membership, makes, made_at, state_at_epoch, history_of, group_history}

-- ---- the incremental that made a pool

-- the pool is there where some incremental makes it
pool-some : (incs : List Incremental) (id : ℕ) → is_some (pool incs id) ≡ list_any (λ made. nat_eq made.id id) (flat_map (λ inc. inc.pools) incs)
pool-some incs id = some_mapped _ (last_where (λ made. nat_eq made.id id) (flat_map (λ inc. inc.pools) incs)) ∙ last_where-some (λ made. nat_eq made.id id) (flat_map (λ inc. inc.pools) incs)

pool-made : (incs : List Incremental) (id : ℕ) (inc : Incremental) → Contains incs inc → makes id inc ≡ true → is_some (pool incs id) ≡ true
pool-made incs id inc there making =
    let found = any-contains (λ (made : PoolSpec). nat_eq made.id id) inc.pools making in
    search (pool-some, contains-any, contains-flat_map)

-- the last incremental that makes the pool
pub record Maker (incs : List Incremental) (id : ℕ) : Type 0 where
  pub maker : Incremental
  pub there : Contains incs maker
  pub making : makes id maker ≡ true
  pub epoch : made_at incs id ≡ maker.epoch

pub maker_of : (incs : List Incremental) (id : ℕ) → is_some (pool incs id) ≡ true → Maker incs id
maker_of incs id there =
    let one = any-contains (λ (made : PoolSpec). nat_eq made.id id) (flat_map (λ (i : Incremental). i.pools) incs) (sym (pool-some incs id) ∙ there) in
    let where' = flat_map-contains (λ (i : Incremental). i.pools) incs one.0 one.1.0 in
    let making : makes id where'.0 ≡ true = contains-any (λ (made : PoolSpec). nat_eq made.id id) where'.0.pools one.0 where'.1.1 one.1.1 in
    let some : is_some (last_where (makes id) incs) ≡ true = last_where-some (makes id) incs ∙ contains-any (makes id) incs where'.0 where'.1.0 making in
    let last = some_is (last_where (makes id) incs) some in
    let found = last_where-found (makes id) incs last.0 last.1 in
    record {
      maker = last.0;
      there = found.0;
      making = found.1;
      epoch = ap (λ o. option_map_or (λ (inc : Incremental). inc.epoch) o 0) last.1;
    }

-- from the epoch that made the pool on, each map has it
pool-since : (incs : List Incremental) (id at : ℕ) → is_some (pool incs id) ≡ true → made_at incs id ≤ at → is_some (pool (up_to at incs) id) ≡ true
pool-since incs id at there since =
    let m = maker_of incs id there in
    let tested : nat_le m.maker.epoch at ≡ true = grind (arith, nat_tests) in
    pool-made (up_to at incs) id m.maker (contains-filter (λ (inc : Incremental). nat_le inc.epoch at) incs m.maker m.there tested) m.making

state-since : (incs : List Incremental) (pg : PgId) (at : ℕ) → is_some (pool incs pg.pool) ≡ true → made_at incs pg.pool ≤ at → is_some (state_at_epoch incs pg at) ≡ true
state-since incs pg at there since = grind (arith, nat_tests, some_mapped, pool-since)

-- ---- a state for each epoch

length-kept : {Y : Type 0} (f : ℕ → Option Y) (a n : ℕ) → ((k : ℕ) → a ≤ k → is_some (f k) ≡ true) → length (filter_map f (range_with_len a n)) ≡ n
length-kept f a zero each = refl
length-kept f a (suc n) each = grind (arith, each a, length-kept f (a + 1) n (λ k from. each k (omega arith)))

get-kept : {Y : Type 0} (f : ℕ → Option Y) (a n k : ℕ) → ((k : ℕ) → a ≤ k → is_some (f k) ≡ true) → k < n → slice_get (filter_map f (range_with_len a n)) k ≡ f (a + k)
get-kept f a zero k each below = absurd (omega arith)
get-kept f a (suc n) zero each below = grind (arith, each a)
get-kept f a (suc n) (suc k) each below = grind (arith, each a, get-kept f (a + 1) n k (λ k from. each k (omega arith)))

-- ---- the history

pub history_if : (incs : List Incremental) (pg : PgId) (found : Option PoolSpec) (h : History AnyCode) (b : Bool) → (if b then option_map (history_of incs pg) found else None) ≡ Some h → (made : PoolSpec) × ((found ≡ Some made) × (history_of incs pg made ≡ h))
history_if incs pg found h false is = cc
history_if incs pg None h true is = cc
history_if incs pg (Some made) h true is = (made, (refl, same_Some _ _ is))

pub history-length : (incs : List Incremental) (pg : PgId) (h : History AnyCode) → group_history incs pg ≡ Some h → length h.lived ≡ epoch incs - h.first
history-length incs pg h is = grind (arith, nat_tests, history_if, length-kept, state-since)

pub history-state : (incs : List Incremental) (pg : PgId) (h : History AnyCode) → group_history incs pg ≡ Some h → (k : ℕ) → h.first + k < epoch incs → slice_get h.lived k ≡ state_at_epoch incs pg (h.first + k)
history-state incs pg h is k = grind (arith, nat_tests, history_if, get-kept, state-since)

pub history-current : (incs : List Incremental) (pg : PgId) (h : History AnyCode) → group_history incs pg ≡ Some h → membership incs pg ≡ Some h.current
history-current incs pg h is = grind (arith, history_if incs pg (pool incs pg.pool) h (has_group incs pg) is)

-- what the laws say
pub ruleset history_laws = (history-length, history-state, history-current)

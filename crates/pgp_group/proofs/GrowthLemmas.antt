-- How a list of incrementals is epochs_ascend, and how the history of a group grows by an incremental that isn't refused.
use Rattle.pgp_group.proofs.Common.{◌≡◌, ℕ, suc, ◌+◌, ◌<◌, ◌≤◌, List, [], ◌∷◌, ◌++◌, Option, Some, None, is_some, Bool, true, false, nat_eq, nat_lt, nat_le, refl, ap, ap₂, sym, ◌∙◌, subst, arith, if◌then◌else◌, Contains, flat_map, last_or, list_any, range_with_len, option_map, option_map_or, eqb-true, nat_tests, filter_map-append, AnyCode, code_of, Incremental, PgId, PoolSizes, PoolSpec, History, begun, are_checked, last_where, epoch, up_to, map_fault, then_with, has_epoch_gap, pool, with_sizes, has_group, pool_membership, membership, flat_map-push, filter-contains, makes, made_at, EpochsAscend, grown_with, passed_over, state_with, state_at_epoch, states_from, history_of, group_history, taken-induction, none_is, zero, ◌-◌, All, AllPairs-nil, length, is_faultless, All-nil, All-head, All-tail, All-weaker, AllPairs-first, AllPairs-rest, EpochState, filter_map, get_or, map, map_push, length_push, contains-append, Contains-here, inl, inr, All-contains}
use Rattle.std.specs.Prelude.{replicate}
use Rattle.std.proofs.lemmas.List.Elements.{All-cons}
use Rattle.std.proofs.lemmas.List.Quantifiers.{all_pairs_push}
use Rattle.pgp_lists.proofs.Ranges.{range-append, range_with_len-suc}
use Rattle.pgp_map.proofs.FaultLemmas.{no_fault}
pub use Rattle.pgp_map.proofs.MapLemmas.{epoch-push as epoch-snoc}
use Rattle.pgp_group.proofs.HistoryLemmas.{maker_of, history_if, history-length}
use Rattle.pgp_group.proofs.Lists.{none-narrower, last_where-passes, last_where-none, filter_map-agree}

-- ---- an incremental that isn't refused

pub later_epoch : (incs : List Incremental) (inc : Incremental) → map_fault incs inc ≡ None → epoch incs < inc.epoch
later_epoch incs inc fine = let gap : has_epoch_gap incs inc ≡ false = (no_fault incs inc fine).gap in grind (arith, nat_tests)

-- it changes the last map
pub linked : (incs : List Incremental) (inc : Incremental) → map_fault incs inc ≡ None → (inc.after ≡ epoch incs) × (inc.after < inc.epoch)
linked incs inc fine =
    let gap : has_epoch_gap incs inc ≡ false = (no_fault incs inc fine).gap in
    let at : inc.after ≡ epoch incs = grind (arith, nat_tests) in
    (at, omega (arith, at, later_epoch incs inc fine))

-- ---- where each leads to the next epoch, epochs count 1, 2, and so on

abbrev LeadsOn : Incremental → Type 0
LeadsOn inc = inc.after ≡ inc.epoch - 1

count-more : (incs : List Incremental) (inc : Incremental) → map_fault incs inc ≡ None → LeadsOn inc → map (λ i. i.epoch) incs ≡ range_with_len 1 (length incs) → epoch incs ≡ length incs
    → (map (λ i. i.epoch) (then_with incs inc) ≡ range_with_len 1 (length (then_with incs inc))) × (epoch (then_with incs inc) ≡ length (then_with incs inc))
count-more incs inc fine on counts ends =
    let link = linked incs inc fine in
    let last : inc.epoch ≡ 1 + length incs = omega (arith, on, link.0, link.1, ends) in
    let long : length (then_with incs inc) ≡ suc (length incs) = omega (arith, length_push incs inc) in (
      map_push (λ (i : Incremental). i.epoch) incs inc ∙ ap₂ (λ l k. l ++ k ∷ []) counts last ∙ sym (range_with_len-suc 1 (length incs)) ∙ ap (range_with_len 1) (sym long),
      omega (arith, epoch-snoc incs inc, last, long),
    )

counts-each : (incs : List Incremental) → are_checked incs ≡ true → ((inc : Incremental) → Contains incs inc → LeadsOn inc) → (map (λ i. i.epoch) incs ≡ range_with_len 1 (length incs)) × (epoch incs ≡ length incs)
counts-each =
    taken-induction is_faultless
    (λ incs. ((inc : Incremental) → Contains incs inc → LeadsOn inc) → (map (λ i. i.epoch) incs ≡ range_with_len 1 (length incs)) × (epoch incs ≡ length incs))
    (λ each. (refl, refl))
    (λ incs inc checked faultless before each.
    let was = before (λ i there. each i (contains-append incs (inc ∷ []) i (inl there))) in
    count-more incs inc (none_is (map_fault incs inc) faultless) (each inc (contains-append incs (inc ∷ []) inc (inr (Contains-here inc [])))) was.0 was.1)

pub counts : (incs : List Incremental) → are_checked incs ≡ true → All LeadsOn incs → (map (λ i. i.epoch) incs ≡ range_with_len 1 (length incs)) × (epoch incs ≡ length incs)
counts incs checked each = counts-each incs checked (λ inc there. All-contains LeadsOn incs inc each there)

-- ---- epochs ascend

-- the epoch of an incremental, 0 where there is none
abbrev epoch_in : Option Incremental → ℕ
epoch_in o = option_map_or (λ inc. inc.epoch) o 0

abbrev is_earlier : Incremental → Incremental → Type 0
is_earlier a b = a.epoch < b.epoch

-- none is above the last, nor is the one before them
none-above : (incs : List Incremental) (o : Option Incremental) → All (λ inc. epoch_in o ≤ inc.epoch) incs → EpochsAscend incs
    → All (λ inc. inc.epoch ≤ epoch_in (last_or o incs)) incs × (epoch_in o ≤ epoch_in (last_or o incs))
none-above [] o above ascend = (All-nil (λ inc. inc.epoch ≤ epoch_in o), omega arith)
none-above (inc ∷ incs) o above ascend =
    let later : All (λ i. inc.epoch ≤ i.epoch) incs =
    All-weaker (is_earlier inc) (λ i. inc.epoch ≤ i.epoch) (λ i less. omega arith) incs (AllPairs-first is_earlier inc incs ascend) in
    let rest = none-above incs (Some inc) later (AllPairs-rest is_earlier inc incs ascend) in
    let first : epoch_in o ≤ inc.epoch = All-head (λ i. epoch_in o ≤ i.epoch) inc incs above in
    (All-cons (λ i. i.epoch ≤ epoch_in (last_or (Some inc) incs)) inc incs rest.1 rest.0, omega (arith, first, rest.1))

pub none_above : (incs : List Incremental) → EpochsAscend incs → All (λ inc. inc.epoch ≤ epoch incs) incs
none_above incs ascend = (none-above incs None (λ k d below. omega arith) ascend).0

pub epochs_ascend-more : (incs : List Incremental) (inc : Incremental) → EpochsAscend incs → map_fault incs inc ≡ None → EpochsAscend (then_with incs inc)
epochs_ascend-more incs inc ascend fine =
    all_pairs_push is_earlier incs inc ascend (λ k d below.
    let within : (get_or incs k d).epoch ≤ epoch incs = none_above incs ascend k d below in omega (arith, within, later_epoch incs inc fine))

pub epochs_ascend : (incs : List Incremental) → are_checked incs ≡ true → EpochsAscend incs
epochs_ascend =
    taken-induction is_faultless EpochsAscend (AllPairs-nil is_earlier)
    (λ incs inc checked faultless before. epochs_ascend-more incs inc before (none_is (map_fault incs inc) faultless))

-- ---- the map of an epoch

up_to-all : (incs : List Incremental) (at : ℕ) → All (λ inc. inc.epoch ≤ at) incs → up_to at incs ≡ incs
up_to-all [] at within = refl
up_to-all (inc ∷ incs) at within =
    let first : inc.epoch ≤ at = All-head (λ i. i.epoch ≤ at) inc incs within in
    grind (arith, nat_tests, up_to-all incs at (All-tail (λ i. i.epoch ≤ at) inc incs within))

-- from the last epoch on the map is that of all
up_to-from : (incs : List Incremental) (at : ℕ) → EpochsAscend incs → epoch incs ≤ at → up_to at incs ≡ incs
up_to-from incs at ascend from =
    up_to-all incs at (All-weaker (λ inc. inc.epoch ≤ epoch incs) (λ inc. inc.epoch ≤ at) (λ inc within. omega arith) incs (none_above incs ascend))

pub up_to-epoch : (incs : List Incremental) → EpochsAscend incs → up_to (epoch incs) incs ≡ incs
up_to-epoch incs ascend = up_to-from incs (epoch incs) ascend (omega arith)

-- maps of earlier epochs stay
up_to-earlier : (at : ℕ) (incs : List Incremental) (inc : Incremental) → at < inc.epoch → up_to at (then_with incs inc) ≡ up_to at incs
up_to-earlier at [] inc later = grind (arith, nat_tests)
up_to-earlier at (first ∷ incs) inc later = grind (arith, up_to-earlier at incs inc later)

-- ---- the pool

-- the pool as it was made last
made_of : List Incremental → ℕ → Option PoolSpec
made_of incs id = last_where (λ made. nat_eq made.id id) (flat_map (λ inc. inc.pools) incs)

-- the sizes that it was given last
sizes_of : List Incremental → ℕ → Option PoolSizes
sizes_of incs id = last_where (λ sizes. nat_eq sizes.pool id) (flat_map (λ inc. inc.sizes) incs)

pool-is : (incs : List Incremental) (id : ℕ) → pool incs id ≡ option_map (with_sizes (sizes_of incs id)) (made_of incs id)
unfolding made_of sizes_of
pool-is incs id = refl

pub unmade : (incs : List Incremental) (inc : Incremental) (id : ℕ) → map_fault incs inc ≡ None → is_some (pool incs id) ≡ true → makes id inc ≡ false
unmade incs inc id fine there =
    none-narrower (λ (made : PoolSpec). nat_eq made.id id) (λ (made : PoolSpec). is_some (pool incs made.id))
    (λ made same. ap (λ (k : ℕ). is_some (pool incs k)) (eqb-true made.id id same) ∙ there) inc.pools (no_fault incs inc fine).known

-- what was told last stays, where the incremental tells nothing of it
pub told-stays : {E : Type 0} (test : E → Bool) (f : Incremental → List E) (incs : List Incremental) (inc : Incremental)
    → list_any test (f inc) ≡ false → last_where test (flat_map f (then_with incs inc)) ≡ last_where test (flat_map f incs)
told-stays test f incs inc none = ap (last_where test) (flat_map-push f incs inc) ∙ last_where-none test (flat_map f incs) (f inc) none

made_of-stays : (incs : List Incremental) (inc : Incremental) (id : ℕ) → makes id inc ≡ false → made_of (then_with incs inc) id ≡ made_of incs id
unfolding made_of
made_of-stays incs inc id unmade = told-stays (λ (made : PoolSpec). nat_eq made.id id) (λ (i : Incremental). i.pools) incs inc unmade

made_at-stays : (incs : List Incremental) (inc : Incremental) (id : ℕ) → makes id inc ≡ false → made_at (then_with incs inc) id ≡ made_at incs id
made_at-stays incs inc id unmade = search (unmade, last_where-none)

pub made_at-made : (incs : List Incremental) (inc : Incremental) (id : ℕ) → makes id inc ≡ true → made_at (then_with incs inc) id ≡ inc.epoch
made_at-made incs inc id makes' = grind (arith, last_where-passes (makes id) incs inc makes')

-- the pool was made by the last incremental or before
made_at-before : (incs : List Incremental) (id : ℕ) → EpochsAscend incs → is_some (pool incs id) ≡ true → made_at incs id ≤ epoch incs
made_at-before incs id counts there =
    let m = maker_of incs id there in
    let all : List Incremental = up_to (epoch incs) incs in
    let kept : Contains all m.maker = subst (λ l. Contains l m.maker) (sym (up_to-epoch incs counts)) m.there in
    let within : nat_le m.maker.epoch (epoch incs) ≡ true = (filter-contains (λ (inc : Incremental). nat_le inc.epoch (epoch incs)) incs m.maker kept).1 in
    grind (arith, nat_tests)

-- sizes change neither the kind of a pool nor its number of groups
kind-sized : (sizes : Option PoolSizes) (made : PoolSpec) → (with_sizes sizes made).kind ≡ made.kind
kind-sized None made = refl
kind-sized (Some sizes) made = refl

pub groups-sized : (sizes : Option PoolSizes) (made : PoolSpec) → (with_sizes sizes made).pg_num ≡ made.pg_num
groups-sized None made = refl
groups-sized (Some sizes) made = refl

-- a pool that is there, before and after an incremental that isn't refused
record Stays (incs : List Incremental) (inc : Incremental) (id : ℕ) (made : PoolSpec) : Type 0 where
  now : PoolSpec
  is : pool (then_with incs inc) id ≡ Some now
  kind : now.kind ≡ made.kind
  groups : now.pg_num ≡ made.pg_num
  since : made_at (then_with incs inc) id ≡ made_at incs id

stays_as : (incs : List Incremental) (inc : Incremental) (id : ℕ) (made : PoolSpec) (base : Option PoolSpec) → made_at (then_with incs inc) id ≡ made_at incs id → made_of (then_with incs inc) id ≡ base → option_map (with_sizes (sizes_of incs id)) base ≡ Some made → Stays incs inc id made
stays_as incs inc id made None since new old = cc
stays_as incs inc id made (Some base) since new old =
    let sizes : Option PoolSizes = sizes_of (then_with incs inc) id in
    let was : with_sizes (sizes_of incs id) base ≡ made = cc in
    record {
      now = with_sizes sizes base;
      is = pool-is (then_with incs inc) id ∙ ap (option_map (with_sizes sizes)) new;
      kind = kind-sized sizes base ∙ sym (kind-sized (sizes_of incs id) base) ∙ ap (λ (p : PoolSpec). p.kind) was;
      groups = groups-sized sizes base ∙ sym (groups-sized (sizes_of incs id) base) ∙ ap (λ (p : PoolSpec). p.pg_num) was;
      since = since;
    }

pool-stays : (incs : List Incremental) (inc : Incremental) (id : ℕ) (made : PoolSpec) → map_fault incs inc ≡ None → pool incs id ≡ Some made → Stays incs inc id made
pool-stays incs inc id made fine is = grind (arith, nat_tests, unmade, stays_as, made_at-stays, made_of-stays, pool-is)

-- the map of an epoch that the incremental passes over is the one before
pub up_to-passed : (incs : List Incremental) (inc : Incremental) (at : ℕ) → EpochsAscend incs → epoch incs ≤ at → at < inc.epoch → up_to at (then_with incs inc) ≡ incs
up_to-passed incs inc at ascend from below = up_to-earlier at incs inc below ∙ up_to-from incs at ascend from

-- ---- the history grows

-- the state of the epoch that was current, and of those that are passed over
state-ended : (incs : List Incremental) (inc : Incremental) (pg : PgId) (made : PoolSpec) (at : ℕ) → EpochsAscend incs → epoch incs ≤ at → at < inc.epoch → pool incs pg.pool ≡ Some made → state_at_epoch (then_with incs inc) pg at ≡ Some (state_with incs (pool_membership incs pg made))
state-ended incs inc pg made at ascend from below is = cc (up_to-passed incs inc at ascend from below)

-- the same state at each epoch
same-kept : {Y : Type 0} (f : ℕ → Option Y) (y : Y) (a n : ℕ) → ((k : ℕ) → a ≤ k → k < a + n → f k ≡ Some y) → filter_map f (range_with_len a n) ≡ replicate n y
same-kept f y a zero each = refl
same-kept f y a (suc n) each =
    rw (each a (omega arith) (omega arith)) (ap (λ ys. y ∷ ys) (same-kept f y (a + 1) n (λ k from below. each k (omega arith) (omega arith))))

-- the states before stay
states-before : (incs : List Incremental) (inc : Incremental) (pg : PgId) (first : ℕ) → epoch incs < inc.epoch → first ≤ epoch incs → filter_map (state_at_epoch (then_with incs inc) pg) (range_with_len first (epoch incs - first)) ≡ states_from incs pg first
states-before incs inc pg first later within =
    filter_map-agree (state_at_epoch (then_with incs inc) pg) (state_at_epoch incs pg) first (epoch incs - first)
    (λ k below. let same : up_to k (then_with incs inc) ≡ up_to k incs = up_to-earlier k incs inc (omega arith) in cc same)

history_of-grows : (incs : List Incremental) (inc : Incremental) (pg : PgId) (made now : PoolSpec) → now.kind ≡ made.kind → made_at (then_with incs inc) pg.pool ≡ made_at incs pg.pool → states_from (then_with incs inc) pg (made_at incs pg.pool) ≡ states_from incs pg (made_at incs pg.pool) ++ replicate (suc (passed_over incs inc)) (state_with incs (pool_membership incs pg made)) → history_of (then_with incs inc) pg now ≡ grown_with incs inc (history_of incs pg made) (pool_membership (then_with incs inc) pg now)
history_of-grows incs inc pg made now kind since states = grind arith

states-grow : (incs : List Incremental) (inc : Incremental) (pg : PgId) (made : PoolSpec) (first : ℕ) → EpochsAscend incs → epoch incs < inc.epoch → pool incs pg.pool ≡ Some made → first ≤ epoch incs
    → states_from (then_with incs inc) pg first ≡ states_from incs pg first ++ replicate (suc (passed_over incs inc)) (state_with incs (pool_membership incs pg made))
states-grow incs inc pg made first ascend later is within =
    let lasts : ℕ = suc (passed_over incs inc) in
    let state = state_at_epoch (then_with incs inc) pg in
    let spans : epoch (then_with incs inc) - first ≡ (epoch incs - first) + lasts = omega (arith, epoch-snoc incs inc) in
    let ended = same-kept state (state_with incs (pool_membership incs pg made)) (epoch incs) lasts
    (λ k from below. state-ended incs inc pg made k ascend from (omega arith) is) in
    ap (λ n. filter_map state (range_with_len first n)) spans
    ∙ ap (filter_map state) (range-append first (epoch incs - first) lasts ∙ ap (λ a. range_with_len first (epoch incs - first) ++ range_with_len a lasts) (omega arith))
    ∙ filter_map-append state (range_with_len first (epoch incs - first)) (range_with_len (epoch incs) lasts)
    ∙ ap₂ (λ (a b : List EpochState). a ++ b) (states-before incs inc pg first later within) ended

has_group-stays : (incs : List Incremental) (inc : Incremental) (pg : PgId) (made : PoolSpec) → Stays incs inc pg.pool made → pool incs pg.pool ≡ Some made → has_group (then_with incs inc) pg ≡ has_group incs pg
has_group-stays incs inc pg made s is = grind arith

-- without its pool being made a group stays there or away
made_of-none : (incs : List Incremental) (id : ℕ) → pool incs id ≡ None → made_of incs id ≡ None
made_of-none incs id none = grind (arith, nat_tests, pool-is)

has_group-without : (incs : List Incremental) (pg : PgId) → pool incs pg.pool ≡ None → has_group incs pg ≡ false
has_group-without incs pg none = ap (λ (o : Option PoolSpec). option_map_or (λ p. nat_lt pg.pg p.pg_num) o false) none

has_group-by_pool : (incs : List Incremental) (inc : Incremental) (pg : PgId) (found : Option PoolSpec) → map_fault incs inc ≡ None → makes pg.pool inc ≡ false → pool incs pg.pool ≡ found
    → has_group (then_with incs inc) pg ≡ has_group incs pg
has_group-by_pool incs inc pg (Some made) fine unmade' is = has_group-stays incs inc pg made (pool-stays incs inc pg.pool made fine is) is
has_group-by_pool incs inc pg None fine unmade' is = search (pool-is, made_of-stays, made_of-none, has_group-without)

pub has_group-unmade : (incs : List Incremental) (inc : Incremental) (pg : PgId) → map_fault incs inc ≡ None → makes pg.pool inc ≡ false → has_group (then_with incs inc) pg ≡ has_group incs pg
has_group-unmade incs inc pg fine unmade' = has_group-by_pool incs inc pg (pool incs pg.pool) fine unmade' refl

-- a group that is there is there
there_then : (incs : List Incremental) (pg : PgId) (h : History AnyCode) (b : Bool) (found : Option PoolSpec) → (if b then option_map (history_of incs pg) found else None) ≡ Some h → b ≡ true
there_then incs pg h true found is = refl
there_then incs pg h false found is = cc

pub history-grows : (incs : List Incremental) (inc : Incremental) (pg : PgId) (h : History AnyCode) → EpochsAscend incs → map_fault incs inc ≡ None → group_history incs pg ≡ Some h
    → group_history (then_with incs inc) pg ≡ option_map (grown_with incs inc h) (membership (then_with incs inc) pg)
history-grows incs inc pg h counts fine is =
    let from = history_if incs pg (pool incs pg.pool) h (has_group incs pg) is in
    let made : PoolSpec = from.0 in
    let s = pool-stays incs inc pg.pool made fine from.1.0 in
    let within : made_at incs pg.pool ≤ epoch incs = made_at-before incs pg.pool counts (ap is_some from.1.0) in
    grind (arith, history_of-grows incs inc pg made s.now s.kind s.since (states-grow incs inc pg made (made_at incs pg.pool) counts (later_epoch incs inc fine) from.1.0 within))

pub has_group-grows : (incs : List Incremental) (inc : Incremental) (pg : PgId) (h : History AnyCode) → map_fault incs inc ≡ None → group_history incs pg ≡ Some h → has_group (then_with incs inc) pg ≡ true
has_group-grows incs inc pg h fine is =
    let from = history_if incs pg (pool incs pg.pool) h (has_group incs pg) is in
    has_group-stays incs inc pg from.0 (pool-stays incs inc pg.pool from.0 fine from.1.0) from.1.0 ∙ there_then incs pg h (has_group incs pg) (pool incs pg.pool) is

-- ---- the history begins

pub history-begins : (incs : List Incremental) (pg : PgId) → made_at incs pg.pool ≡ epoch incs → has_group incs pg ≡ true → group_history incs pg ≡ option_map (λ made. begun (code_of made.kind) (epoch incs) (pool_membership incs pg made)) (pool incs pg.pool)
history-begins incs pg now there = grind arith

pub history-begins-made : (incs : List Incremental) (inc : Incremental) (pg : PgId) → makes pg.pool inc ≡ true → has_group (then_with incs inc) pg ≡ true
    → group_history (then_with incs inc) pg ≡ option_map (λ made. begun (code_of made.kind) inc.epoch (pool_membership (then_with incs inc) pg made)) (pool (then_with incs inc) pg.pool)
history-begins-made incs inc pg making there = grind (arith, nat_tests, history-begins, made_at-made, epoch-snoc)

-- ---- the last epoch

-- the history reaches the last epoch
pub history-last : (incs : List Incremental) (pg : PgId) (h : History AnyCode) → EpochsAscend incs → group_history incs pg ≡ Some h → h.first + length h.lived ≡ epoch incs
history-last incs pg h counts is = grind (arith, nat_tests, history_if, made_at-before, history-length)

-- what the laws say
pub ruleset ascend_laws = (epochs_ascend)

pub ruleset begin_laws = (made_at-made, history-begins-made)

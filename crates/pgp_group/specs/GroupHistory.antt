-- The history of a placement group, as a list of map incrementals tells it: from the epoch that made its pool to that of
-- the last map (Ceph's developer documentation on peering: past intervals).
use Rattle.std.specs.Prelude.{ℕ, ◌-◌, ◌<◌, List, Bool, nat_eq, Option, Some, None, option_map, filter_map, if◌then◌else◌, AllPairs}
use Rattle.std.specs.List.{list_any, range_with_len}
use Rattle.std.specs.Option.{option_map_or}
use Rattle.pgp_code.specs.declared.any.AnyCode.{AnyCode}
use Rattle.pgp_ids.specs.declared.history.EpochState.{EpochState}
use Rattle.pgp_ids.specs.declared.history.PrimaryFacts.{PrimaryFacts}
use Rattle.pgp_ids.specs.declared.incremental.Incremental.{Incremental}
use Rattle.pgp_ids.specs.declared.membership.Membership.{Membership}
use Rattle.pgp_ids.specs.declared.pg_id.PgId.{PgId}
use Rattle.pgp_ids.specs.declared.pool.PoolSpec.{PoolSpec}
use Rattle.pgp_interval.specs.History.{History, grown}
use Rattle.pgp_map.specs.Devices.{up_from, up_thru}
use Rattle.pgp_map.specs.Last.{last_where}
use Rattle.pgp_map.specs.Map.{epoch, up_to}
use Rattle.pgp_map.specs.Pools.{pool, has_group}
use Rattle.pgp_sets.specs.Sets.{pool_membership, membership, membership_at}
use Rattle.pgp_code.specs.Pool.{code_of}

-- each incremental leads to a later epoch than those before it
abbrev pub EpochsAscend : List Incremental → Type 0
EpochsAscend incs = AllPairs (λ earlier later. earlier.epoch < later.epoch) incs

-- how many epochs the incremental passes over, which have the map that these make
abbrev pub passed_over : List Incremental → Incremental → ℕ
passed_over incs inc = inc.epoch - epoch incs - 1

-- the incremental makes the pool
abbrev pub makes : ℕ → Incremental → Bool
makes id inc = list_any (λ made. nat_eq made.id id) inc.pools

-- the epoch that made the pool: the last one that did; in a legal log only one does
abbrev pub made_at : List Incremental → ℕ → ℕ
made_at incs id = option_map_or (λ inc. inc.epoch) (last_where (makes id) incs) 0

-- what the map says of an acting primary; where there is none, both epochs are 0 and play no part
abbrev pub primary_facts : List Incremental → Option ℕ → PrimaryFacts
primary_facts incs None = record { up_from = 0; up_thru = 0 }
primary_facts incs (Some osd) = record { up_from = up_from incs osd; up_thru = up_thru incs osd }

-- the acting primary of a group, or that it has none, where the map has the group's pool
abbrev pub group_primary : List Incremental → PgId → Option (Option ℕ)
group_primary incs pg = option_map (λ members. members.acting_primary) (membership incs pg)

-- what the map says of it
abbrev pub group_facts : List Incremental → PgId → Option PrimaryFacts
group_facts incs pg = option_map (primary_facts incs) (group_primary incs pg)

-- the membership, with the facts of its acting primary in the same map
abbrev pub state_with : List Incremental → Membership → EpochState
state_with incs members = record { members = members; facts = primary_facts incs members.acting_primary }

-- the group's state at an epoch, by the map of that epoch; an epoch that was passed over has the map of the one before it
abbrev pub state_at_epoch : List Incremental → PgId → ℕ → Option EpochState
state_at_epoch incs pg at = option_map (state_with (up_to at incs)) (membership_at at incs pg)

-- the group's states at the epochs from this one to the one before the last
abbrev pub states_from : List Incremental → PgId → ℕ → List EpochState
states_from incs pg first = filter_map (state_at_epoch incs pg) (range_with_len first (epoch incs - first))

-- the history of a group of this pool
abbrev pub history_of : List Incremental → PgId → PoolSpec → History AnyCode
history_of incs pg pool =
    record {
      code = code_of pool.kind;
      first = made_at incs pg.pool;
      lived = states_from incs pg (made_at incs pg.pool);
      current = pool_membership incs pg pool;
    }

-- the history with one incremental more, by whose map the group lies at these members
abbrev pub grown_with : List Incremental → Incremental → History AnyCode → Membership → History AnyCode
grown_with incs inc h members = grown h (passed_over incs inc) members (primary_facts incs h.current.acting_primary)

-- the history of a group, where the map has the group
abbrev pub group_history : List Incremental → PgId → Option (History AnyCode)
group_history incs pg = if has_group incs pg then option_map (history_of incs pg) (pool incs pg.pool) else None

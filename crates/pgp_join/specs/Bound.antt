-- How many incrementals a log has at most where they are joined. This project's own choice.
use Rattle.std.specs.Prelude.{◌≡◌, ℕ, ◌+◌, ◌*◌, ◌/◌, ◌≤◌, ◌⊎◌, List, [], ◌∷◌, length, map, flat_map, nat_eq}
use Rattle.std.specs.List.{range_with_len}
use Rattle.std.specs.Option.{option_map_or}
use Rattle.std.specs.Set.{distinct_count}
use Rattle.pgp_ids.specs.declared.entry.Entry.{Entry}
use Rattle.pgp_ids.specs.declared.incremental.Incremental.{Incremental}
use Rattle.pgp_ids.specs.declared.pg_id.PgId.{PgId}
use Rattle.pgp_ids.specs.declared.pool.PoolSpec.{PoolSpec}
use Rattle.pgp_ids.specs.declared.view.View.{View}
use Rattle.pgp_group.specs.Entries.{incs_of}
use Rattle.pgp_group.specs.View.{scratch}
use Rattle.pgp_join.specs.Alike.{AreAlike, ending_from}

-- the first epochs of a group's intervals that matter: of the current one, and of those that end with the last epoch in which it is
-- known to have begun to serve, or later
abbrev pub first_epochs : View → List ℕ
first_epochs view = view.first ∷ map (λ past. past.first) (ending_from view.les view.intervals)

-- those of the group in this log, where the last map has it
abbrev pub begun_in : List Entry → PgId → List ℕ
begun_in log pg = option_map_or first_epochs (scratch log pg) []

-- the groups of a pool that was made
abbrev pub groups_made : PoolSpec → List PgId
groups_made made = map (λ pg. record { pool = made.id; pg = pg }) (range_with_len 0 made.pg_num)

-- the epochs in which intervals begin that matter, of all groups
abbrev pub epochs_begun : List Entry → List ℕ
epochs_begun log = flat_map (begun_in log) (flat_map groups_made (flat_map (λ inc. inc.pools) (incs_of log)))

-- the devices that boot
abbrev pub devices_booted : List Incremental → List ℕ
devices_booted incs = flat_map (λ inc. inc.up) incs

-- the pg_temp lists that were given
abbrev pub lists_given : List Incremental → ℕ
lists_given incs = length (flat_map (λ inc. inc.temp) incs)

-- the most incrementals that joining leaves: one for each epoch in which an interval begins that matters, three for each device that
-- boots, three, and one for each 4,096 pg_temp lists
abbrev pub most_incs : List Entry → ℕ
most_incs log =
    distinct_count nat_eq (epochs_begun log) + 3 * distinct_count nat_eq (devices_booted (incs_of log)) + 3 + lists_given (incs_of log) / 4096

-- The other log may stand for the log. It is as long, or has no more incrementals than joining leaves.
pub record IsJoinedLog (log joined : List Entry) : Type 0 where
  pub alike : AreAlike log joined
  pub few : (length joined ≡ length log) ⊎ (length (incs_of joined) ≤ most_incs log)

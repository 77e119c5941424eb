-- The line of a map incremental, in this project's own format over JSON.
use Rattle.std.specs.Prelude.{ℕ, ◌-◌, List, [], codes, Option, Some, None, option_map, unwrap_or, Result, Ok}
use Rattle.serde_json.specs.Data.{Data}
use Rattle.pgp_ids.specs.Incremental.{no_change}
use Rattle.pgp_ids.specs.declared.incremental.Incremental.{Incremental}
use Rattle.pgp_lines.specs.LineFault.{LineFault, ◌>>=◌}
use Rattle.pgp_lines.specs.Shapes.{list_of, required, optional}
use Rattle.pgp_lines.specs.Format.{read_in, judged, judged_at, has_pools, has_tree}
use Rattle.pgp_lines.specs.Ids.{osd_in, word_in}
use Rattle.pgp_lines.specs.Devices.{device_weight_in, device_epoch_in}
use Rattle.pgp_lines.specs.Pools.{pool_in, pool_sizes_in, temp_in}
use Rattle.pgp_lines.specs.Buckets.{tree_in}
use Rattle.pgp_lines.specs.declared.command.format.Format.{Format}

-- the list at a key, empty where the key is absent
abbrev pub list_at : {A : Type 0} → List ℕ → (Data → Option A) → Data → Result (List A) LineFault
list_at key shape d = optional key (list_of shape) [] d

-- With the tree, the epochs and the devices that go, in a line of this version. Where it names no map that it changes, that is the one of the
-- epoch before its own.
abbrev pub with_down : Format → Option ℕ → Incremental → Data → Result Incremental LineFault
with_down format after inc d = do
  crush ← optional (codes "crush") tree_in None d
  known ← judged_at (codes "crush") (has_tree format crush)
  down ← list_at (codes "down") osd_in d
  epoch ← required (codes "epoch") word_in d
  gone ← list_at (codes "gone") osd_in d
  lost ← list_at (codes "lost") device_epoch_in d
  Ok (record inc { after = unwrap_or after (epoch - 1); crush = crush; down = down; epoch = epoch; gone = gone; lost = lost })

-- with pools and groups, in a line of this version
abbrev pub with_pools : Format → Incremental → Data → Result Incremental LineFault
with_pools format inc d = do
  pools ← list_at (codes "pools") pool_in d
  known ← judged_at (codes "pools") (has_pools format pools)
  sizes ← list_at (codes "sizes") pool_sizes_in d
  temp ← list_at (codes "temp") temp_in d
  Ok (record inc { pools = pools; sizes = sizes; temp = temp })

-- with the devices that come, or go on; `v` stands among their keys
abbrev pub with_up : Option Format → Incremental → Data → Result Incremental LineFault
with_up format inc d = do
  up ← list_at (codes "up") osd_in d
  up_thru ← list_at (codes "up_thru") device_epoch_in d
  known ← judged format
  weight ← list_at (codes "weight") device_weight_in d
  Ok (record inc { up = up; up_thru = up_thru; weight = weight })

-- the line of an incremental, which names this version: its keys are judged in ascending byte order, so the least bad one is named
abbrev pub inc_of_line : Format → Option Format → Data → Result Incremental LineFault
inc_of_line last format d = do
  after ← optional (codes "after") (λ after. option_map Some (word_in after)) None d
  down ← with_down (read_in last format) after (no_change 0 0) d
  pools ← with_pools (read_in last format) down d
  with_up format pools d

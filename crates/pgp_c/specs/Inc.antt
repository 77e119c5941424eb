-- How a map incremental that C tells ends. This project's own choice.
use Rattle.std.specs.Prelude.{◌≡◌, ◌⊎◌, ℕ, ◌-◌, ◌||◌, List, [], ◌∷◌, Option, Some, None, option_map, nat_eq, if◌then◌else◌}
use Rattle.pgp_ids.specs.Incremental.{no_change}
use Rattle.pgp_ids.specs.declared.bucket.BucketSpec.{BucketSpec}
use Rattle.pgp_ids.specs.declared.entry.Entry.TheVariants as entry
use Rattle.pgp_ids.specs.declared.incremental.Incremental.{Incremental}
use Rattle.pgp_lines.specs.Format.{has_after, has_tree}
use Rattle.pgp_lines.specs.Shapes.{◌>>=◌}
use Rattle.pgp_lines.specs.declared.command.format.Format.{Format}
use Rattle.pgp_core.specs.Session.{LogAndAnswer}
use Rattle.pgp_c.specs.Devices.{device_epoch_of, device_weight_of, osd_of}
use Rattle.pgp_c.specs.Each.{each_given}
use Rattle.pgp_c.specs.Pools.{pool_of, pool_sizes_of, temp_of}
use Rattle.pgp_c.specs.Report.{LacksReport}
use Rattle.pgp_c.specs.Status.{status_number}
use Rattle.pgp_c.specs.Submit.{TellsEntry}
use Rattle.pgp_c.specs.Tree.{given_bucket}
use Rattle.pgp_c.specs.declared.inc.PgpInc.{PgpInc}
use Rattle.pgp_c.specs.declared.status.Status.TheVariants.{NoMemory, NotOpen, BadArgument}
use Rattle.pgp_c.specs.declared.tree.PgpBucket.{PgpBucket}

-- the epoch of the map that is changed: the one before, where the version has no other
abbrev pub after_of : Format → PgpInc → Option ℕ
after_of format given = if has_after format || nat_eq given.after (given.epoch - 1) then Some given.after else None

-- the tree, where it has a bucket
abbrev pub tree_of : List PgpBucket → Option (Option (List BucketSpec))
tree_of [] = Some None
tree_of (bucket ∷ buckets) = option_map Some (each_given given_bucket (bucket ∷ buckets))

-- the tree, where the version has each bucket
abbrev pub allowed_tree : Format → PgpInc → Option (Option (List BucketSpec))
allowed_tree format given = do
  tree ← tree_of given.crush.now
  if has_tree format tree then Some tree else None

-- what it says of devices
abbrev pub with_devices : PgpInc → Incremental → Option Incremental
with_devices given inc = do
  up ← each_given osd_of given.up.now
  down ← each_given osd_of given.down.now
  gone ← each_given osd_of given.gone.now
  weight ← each_given device_weight_of given.weight.now
  up_thru ← each_given device_epoch_of given.up_thru.now
  lost ← each_given device_epoch_of given.lost.now
  Some (record inc { up = up; down = down; gone = gone; weight = weight; up_thru = up_thru; lost = lost })

-- what it says of pools and groups
abbrev pub with_given_pools : PgpInc → Incremental → Option Incremental
with_given_pools given inc = do
  pools ← each_given pool_of given.pools.now
  sizes ← each_given pool_sizes_of given.sizes.now
  temp ← each_given temp_of given.temp.now
  Some (record inc { pools = pools; sizes = sizes; temp = temp })

-- the incremental, where a session that reads lines up to this version may be told of it
abbrev pub given_inc : Format → PgpInc → Option Incremental
given_inc format given = do
  after ← after_of format given
  tree ← allowed_tree format given
  devices ← with_devices given (no_change after given.epoch)
  pools ← with_given_pools given devices
  Some (record pools { crush = tree })

-- An incremental was told to a session, which goes from `was` to `now`. One that may not be told of changes nothing.
abbrev pub SubmitsGiven : Option Incremental → LogAndAnswer → LogAndAnswer → ℕ → Type 0
SubmitsGiven None was now status = (now ≡ was) × ((status ≡ status_number BadArgument) ⊎ (status ≡ status_number NoMemory))
SubmitsGiven (Some inc) was now status = TellsEntry was now (entry.Inc inc) status ⊎ LacksReport was now status

-- An incremental was told to a session, where there is one.
abbrev pub SubmitsInc : Option LogAndAnswer → Option LogAndAnswer → PgpInc → ℕ → Type 0
SubmitsInc None now given status = (now ≡ None) × (status ≡ status_number NotOpen)
SubmitsInc (Some was) None given status = ⊥
SubmitsInc (Some was) (Some now) given status = SubmitsGiven (given_inc was.format given) was now status

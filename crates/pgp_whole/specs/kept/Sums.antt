-- What is kept of groups while they are summed up.
use Rattle.std.specs.Prelude.{◌≡◌, ℕ, ◌<◌, List, map, slice_index}
use Rattle.pgp_group.specs.GroupLog.{GroupLog}
use Rattle.pgp_group.specs.Verdict.{verdict}
use Rattle.pgp_whole.specs.Summary.{blockers, down_from, freers, groups_with, unheard}
use Rattle.pgp_whole.specs.declared.devices.DeviceWaits.{DeviceWaits}
use Rattle.pgp_whole.specs.declared.group_sums.GroupSums.{GroupSums}

-- for each device, for how many of the groups it is among those of the group
abbrev pub AreCounts : (GroupLog → List ℕ) → List GroupLog → List ℕ → Type 0
AreCounts devices groups counts = (osd : ℕ) → osd < 4096 → slice_index counts osd ≡ groups_with devices groups osd

-- these are the sums of the groups
pub record AreSums (groups : List GroupLog) (sums : GroupSums) : Type 0 where
  pub verdicts_are : sums.verdicts ≡ map verdict groups
  pub blocks_are : AreCounts blockers groups sums.blocks
  pub frees_are : AreCounts freers groups sums.frees
  pub awaited_are : AreCounts unheard groups sums.awaited

-- how many groups wait for a device, by these sums
abbrev pub waits_in : GroupSums → ℕ → DeviceWaits
waits_in sums osd =
    record {
      frees = down_from (slice_index sums.frees osd);
      blocks = down_from (slice_index sums.blocks osd);
      awaited = down_from (slice_index sums.awaited osd);
      osd = osd;
    }

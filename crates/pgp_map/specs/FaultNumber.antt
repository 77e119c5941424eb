-- The refusals of entries that the faults of a map incremental are, and their numbers.
use Rattle.std.specs.Prelude.{ℕ, Option, Some, None}
use Rattle.pgp_crush.specs.TreeFault.{tree_fault_number}
use Rattle.pgp_ids.specs.Refusal.{refusal_number}
use Rattle.pgp_ids.specs.declared.refusal.Refusal.{Refusal}
use Rattle.pgp_ids.specs.declared.refusal.Refusal.TheVariants as refusal
use Rattle.pgp_map.specs.declared.fault.MapFault.{MapFault}
use Rattle.pgp_map.specs.declared.fault.MapFault.TheVariants.{EpochGap, Twice, UnknownDevice, AlreadyUp, AlreadyDown, StillUp, UpThruBack, Ahead, BadPool, PoolKnown, BadTemp, TreeFault, Memory}

-- the refusal of a tree's fault, by its number; one without a number is out of memory
abbrev pub tree_refusal : Option ℕ → Refusal
tree_refusal (Some number) = refusal.TreeFault number
tree_refusal None = refusal.Memory

-- the refusal of an entry that a fault is
abbrev pub refusal_of : MapFault → Refusal
refusal_of EpochGap = refusal.EpochGap
refusal_of Twice = refusal.Twice
refusal_of UnknownDevice = refusal.UnknownDevice
refusal_of AlreadyUp = refusal.AlreadyUp
refusal_of AlreadyDown = refusal.AlreadyDown
refusal_of StillUp = refusal.StillUp
refusal_of UpThruBack = refusal.UpThruBack
refusal_of Ahead = refusal.Ahead
refusal_of BadPool = refusal.BadPool
refusal_of PoolKnown = refusal.PoolKnown
refusal_of BadTemp = refusal.BadTemp
refusal_of (TreeFault fault) = tree_refusal (tree_fault_number fault)
refusal_of Memory = refusal.Memory

-- the number of a fault in answers: that of its refusal
abbrev pub map_fault_number : MapFault → ℕ
map_fault_number fault = refusal_number (refusal_of fault)

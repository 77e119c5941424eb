-- The numbers and names of the refusals of an entry.
use Rattle.std.specs.Prelude.{ℕ, List, Option, Some, None, codes}
use Rattle.pgp_ids.specs.declared.refusal.Refusal.{Refusal}
use Rattle.pgp_ids.specs.declared.refusal.Refusal.TheVariants.{EpochGap, Twice, UnknownDevice, AlreadyUp, AlreadyDown, StillUp, UpThruBack, Ahead, BadPool, PoolKnown, BadTemp, TreeFault, LogFull, Memory, UnknownGroup, UnknownMember, FutureStamp, BadVersion, Closed}

-- the number of a refusal in answers
abbrev pub refusal_number : Refusal → ℕ
refusal_number EpochGap = 10
refusal_number Twice = 11
refusal_number UnknownDevice = 12
refusal_number AlreadyUp = 13
refusal_number AlreadyDown = 14
refusal_number StillUp = 15
refusal_number UpThruBack = 16
refusal_number Ahead = 17
refusal_number BadPool = 18
refusal_number PoolKnown = 19
refusal_number BadTemp = 20
refusal_number (TreeFault fault) = 21
refusal_number LogFull = 50
refusal_number Memory = 51
refusal_number UnknownGroup = 60
refusal_number UnknownMember = 61
refusal_number FutureStamp = 62
refusal_number BadVersion = 63
refusal_number Closed = 64

-- the name of a refusal in answers
abbrev pub refusal_name : Refusal → List ℕ
refusal_name EpochGap = codes "EpochGap"
refusal_name Twice = codes "Twice"
refusal_name UnknownDevice = codes "UnknownDevice"
refusal_name AlreadyUp = codes "AlreadyUp"
refusal_name AlreadyDown = codes "AlreadyDown"
refusal_name StillUp = codes "StillUp"
refusal_name UpThruBack = codes "UpThruBack"
refusal_name Ahead = codes "Ahead"
refusal_name BadPool = codes "BadPool"
refusal_name PoolKnown = codes "PoolKnown"
refusal_name BadTemp = codes "BadTemp"
refusal_name (TreeFault fault) = codes "TreeFault"
refusal_name LogFull = codes "LogFull"
refusal_name Memory = codes "Memory"
refusal_name UnknownGroup = codes "UnknownGroup"
refusal_name UnknownMember = codes "UnknownMember"
refusal_name FutureStamp = codes "FutureStamp"
refusal_name BadVersion = codes "BadVersion"
refusal_name Closed = codes "Closed"

-- the number of the tree's fault
abbrev pub refusal_tree : Refusal → Option ℕ
refusal_tree (TreeFault fault) = Some fault
refusal_tree _ = None

-- The numbers by which C knows what became of a call. They are below 10, where the refusals begin. This project's own choice.
use Rattle.std.specs.Prelude.{ℕ}
use Rattle.pgp_c.specs.declared.status.Status.{Status}
use Rattle.pgp_c.specs.declared.status.Status.TheVariants.{Done, RoomTooSmall, NoMemory, NotOpen, AlreadyOpen, BadArgument, NoList, NoLines}

abbrev pub status_number : Status → ℕ
status_number Done = 0
status_number RoomTooSmall = 1
status_number NoMemory = 2
status_number NotOpen = 3
status_number AlreadyOpen = 4
status_number BadArgument = 5
status_number NoList = 6
status_number NoLines = 7

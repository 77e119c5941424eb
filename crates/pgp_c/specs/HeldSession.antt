-- What a session that a C program holds owns.
use Rattle.std.specs.Prelude.{Option, Some, None}
use Rattle.std.specs.Coded.{coded_option}
use Rattle.std.specs.Box.Ownership.{box_owns}
use Rattle.std.specs.Global.{Global}
use base.Fml.{Fml, ftrue}
use base.Stored.{Coded}
use denote.RawPtr.{Ptr}
use Rattle.std_heap.specs.contracts.GlobalAllocator.TheImpl.{ghosts}
use Rattle.pgp_core.specs.contracts.session.Session.{the_row}

-- Where there is a session, its pointer owns what a box of it owns: the session, and the right to free its block. Where there
-- is none, the pointer owns nothing.
abbrev pub held_owns : Global → Ptr → Option the_row.Denot → Fml
held_owns alloc at None = ftrue
held_owns alloc at (Some session) = box_owns (ghosts.dealloc_token alloc) the_row at session

abbrev pub session_coded : Coded (Option the_row.Denot)
session_coded = coded_option the_row.coded

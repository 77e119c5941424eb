-- The pointer that C holds may go to another thread, since the session behind it may, and any thread may free its block.
use mir.Raw.{raw}
use base.Shift.{Keyless}
use denote.Memory.{lone}
use denote.RawPtr.{Ptr}
use denote.Struct.Struct.{exits_of}
use denote.Struct.Owning.{shape, fields, to}
use denote.Param.Send.{IsSend, AllSend, owning_send, struct_send, sendable}
use Rattle.std.specs.Prelude.{Option, Some, None}
use Rattle.std.specs.Global.{Global}
use Rattle.std.proofs.Crossing as heap
use Rattle.std_alloc.proofs.SendSync.{quiet, lies}
use Rattle.std_heap.proofs.Global.TheSendSync as handle
use Rattle.pgp_core.specs.contracts.session.Session as Session
use Rattle.pgp_c.specs.HeldSession.{held_owns}
use Rattle.pgp_c.specs.contracts.held_session.HeldSession.{the_row, the_type}
use Rattle.pgp_c.proofs.SessionSend.{session}

owned : (alloc : Global) (at : Ptr) (held : Option Session.the_row.Denot) → Keyless (held_owns alloc at held)
owned alloc at None = tt
owned alloc at (Some it) = (lies Session.the_row session at it, heap.frees.frees alloc (raw (lone Session.the_row.mir)) at)

pub send : IsSend the_row
send =
    let all : AllSend (fields the_type) = (search sendable, (handle.the_field_send, tt)) in
    owning_send the_type all (λ d. owned d.alloc d.at d.session) (λ k. quiet (to the_type) (exits_of k (fields the_type)) ((struct_send (shape the_type) all).leaving k))

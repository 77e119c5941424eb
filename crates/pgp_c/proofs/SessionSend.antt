-- A session may go to another thread, since all that it has may.
use denote.Param.Send.{IsSend, sendable, view_send}
use denote.Param.SendFields.{declared_send}
use Rattle.std.proofs.Crossing as heap
use Rattle.std_heap.specs.contracts.Global as Heap
use Rattle.std_heap.specs.contracts.GlobalAllocator.TheImpl.{ghosts}
use Rattle.json.proofs.scratch.Scratch.TheSendSync.{the_send as scratch}
use Rattle.pgp_lines.specs.contracts.command.LineReader as LineReader
use Rattle.pgp_lines.proofs.command.format.Format.TheSendSync.{the_send as format}
use Rattle.pgp_text.proofs.reply.ReplyWriter.TheSendSync.{the_send as writer}
use Rattle.pgp_core.specs.contracts.codec.Codec as Codec
use Rattle.pgp_core.specs.contracts.session.Session as Session
use Rattle.pgp_core.specs.contracts.session.Session.TheInside as Inside
use Rattle.pgp_core.proofs.log.Log.TheSendSync.{the_send as log}
use Rattle.pgp_core.proofs.session.LastAnswer.TheSendSync.{the_send as last}
use Rattle.pgp_c.proofs.ArenaSend.{Bump-send}

reader : IsSend LineReader.the_row
reader = declared_send LineReader.the_type (format, (scratch Heap.the_row ghosts heap.send heap.frees, (Bump-send, tt)))

codec : IsSend Codec.the_row
codec = declared_send Codec.the_type (reader, (writer, tt))

inside : IsSend Inside.the_row
inside = declared_send Inside.the_type (heap.send, (log, (codec, (heap.Vec-send _ (search sendable), (last, tt)))))

pub session : IsSend Session.the_row
session = view_send Inside.the_row _ _ _ _ inside

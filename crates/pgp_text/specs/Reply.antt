-- The text of an answer, and of the answer to a line by what its fault is, in this project's own format: compact JSON, the keys of
-- an object in ascending byte order.
use Rattle.std.specs.Prelude.{ℕ, List, [], ◌∷◌, codes, Some, None}
use Rattle.serde_json.specs.Data.{Data, string}
use Rattle.serde_json.specs.Written.{compact_text}
use Rattle.pgp_ids.specs.declared.membership.Membership.{Membership}
use Rattle.pgp_ids.specs.declared.past.Past.{Past}
use Rattle.pgp_ids.specs.declared.pg_id.PgId.{PgId}
use Rattle.pgp_lines.specs.LineFault.{LineFault, line_too_long, not_json, no_op, unknown_key, bad_field}
use Rattle.pgp_lines.specs.Op.{op_name}
use Rattle.pgp_lines.specs.declared.command.op.Op.{Op}
use Rattle.pgp_lines.specs.declared.command.op.Op.TheVariants as op
use Rattle.pgp_text.specs.Json.{object_with, number_data}
use Rattle.pgp_text.specs.Answered.{group_data, place_data, osds_data, intervals_data}
use Rattle.pgp_text.specs.Asked.{asked_data}
use Rattle.pgp_text.specs.LineRefusal.{refusal_data, refused_data}
use Rattle.pgp_text.specs.declared.reply.Reply.{Reply}
use Rattle.pgp_text.specs.declared.reply.Reply.TheVariants.{Accepted, Asked, Located, Traced, Refused}

-- the log took an entry
abbrev pub accepted_data : Op → ℕ → ℕ → Data
accepted_data op count epoch = object_with (
    (codes "count", number_data count)
    ∷ (codes "epoch", number_data epoch)
    ∷ (codes "ok", string (op_name op))
    ∷ [])

-- where a group lies
abbrev pub located_data : PgId → Membership → ℕ → Data
located_data pg members epoch = object_with (
    (codes "acting", osds_data members.acting)
    ∷ (codes "acting_primary", place_data members.acting_primary)
    ∷ (codes "epoch", number_data epoch)
    ∷ (codes "ok", string (op_name op.Locate))
    ∷ (codes "pg", group_data pg)
    ∷ (codes "up", osds_data members.up)
    ∷ (codes "up_primary", place_data members.up_primary)
    ∷ [])

-- the intervals of a trace
abbrev pub traced_data : ℕ → List Past → Data
traced_data first past = object_with (
    (codes "first", number_data first)
    ∷ (codes "intervals", intervals_data past)
    ∷ (codes "ok", string (op_name op.Trace))
    ∷ [])

-- the object that a reply is written as
abbrev pub reply_data : Reply → Data
reply_data (Accepted op count epoch) = accepted_data op count epoch
reply_data (Asked pg v) = asked_data pg v
reply_data (Located pg members epoch) = located_data pg members epoch
reply_data (Traced first past) = traced_data first past
reply_data (Refused refused) = refused_data refused

-- the bytes of a reply, without a line feed
abbrev pub reply_text : Reply → List ℕ
reply_text reply = compact_text (reply_data reply)

-- what is written of a line that has this fault
abbrev pub line_fault_data : LineFault → Data
line_fault_data line_too_long = refusal_data 30 None (codes "LineTooLong") None
line_fault_data not_json = refusal_data 31 None (codes "NotJson") None
line_fault_data no_op = refusal_data 32 None (codes "NoOp") None
line_fault_data (unknown_key key) = refusal_data 33 (Some key) (codes "UnknownKey") None
line_fault_data (bad_field key) = refusal_data 34 (Some key) (codes "BadField") None

-- the bytes of the answer to a line that has this fault, without a line feed
abbrev pub fault_text : LineFault → List ℕ
fault_text fault = compact_text (line_fault_data fault)

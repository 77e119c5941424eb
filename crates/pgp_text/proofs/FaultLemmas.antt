-- What is written of a line's fault.
use Rattle.std.proofs.Common.{◌≡◌, refl, IfSome}
use Rattle.pgp_ids.specs.declared.text_fault.TextFault.{TextFault}
use Rattle.pgp_ids.specs.declared.text_fault.TextFault.TheVariants.{LineTooLong, NotJson, NoOp, UnknownKey, BadField, Memory}
use Rattle.pgp_lines.specs.LineFault.{line_fault_of}
use Rattle.pgp_text.specs.LineRefusal.{refused_data}
use Rattle.pgp_text.specs.declared.reply.line_refusal.LineRefusal.TheVariants.{Line}
use Rattle.pgp_text.specs.Reply.{line_fault_data}

pub written_as_read : (fault : TextFault) → IfSome (line_fault_of fault) (λ f. line_fault_data f ≡ refused_data (Line fault))
written_as_read LineTooLong = refl
written_as_read NotJson = refl
written_as_read NoOp = refl
written_as_read (UnknownKey key) = refl
written_as_read (BadField key) = refl
written_as_read Memory = tt

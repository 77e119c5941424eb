-- The numbers of the faults of a line.
use Rattle.std.specs.Prelude.{ℕ}
use Rattle.pgp_ids.specs.declared.text_fault.TextFault.{TextFault}
use Rattle.pgp_ids.specs.declared.text_fault.TextFault.TheVariants.{LineTooLong, NotJson, NoOp, UnknownKey, BadField, Memory}

abbrev pub text_fault_number : TextFault → ℕ
text_fault_number LineTooLong = 30
text_fault_number NotJson = 31
text_fault_number NoOp = 32
text_fault_number (UnknownKey key) = 33
text_fault_number (BadField key) = 34
text_fault_number Memory = 41

-- The numbers of faults, and which fault a failed read or a refused question is.
use Rattle.std.specs.Prelude.{ℕ, Option, Some, None}
use Rattle.pgp_ids.specs.Refusal.{refusal_number}
use Rattle.pgp_feed.specs.declared.receipt.Receipt.{Receipt}
use Rattle.pgp_feed.specs.declared.fault.ReadFault.{ReadFault}
use Rattle.pgp_feed.specs.declared.fault.ReadFault.TheVariants as read
use Rattle.pgp_engine.specs.declared.fault.SubmitFault.{SubmitFault}
use Rattle.pgp_engine.specs.declared.fault.SubmitFault.TheVariants as submit
use Rattle.pgp_engine.specs.declared.fault.AskFault.{AskFault}
use Rattle.pgp_engine.specs.declared.fault.AskFault.TheVariants as ask
use Rattle.pgp_engine.specs.declared.client.fault.LocateFault.{LocateFault}
use Rattle.pgp_engine.specs.declared.client.fault.LocateFault.TheVariants as locate

abbrev pub submit_fault_number : SubmitFault → ℕ
submit_fault_number (submit.Refused why at) = refusal_number why
submit_fault_number submit.Memory = 51
submit_fault_number submit.NoReader = 52

abbrev pub ask_fault_number : AskFault → ℕ
ask_fault_number (ask.UnknownGroup at) = 40
ask_fault_number ask.Memory = 41
ask_fault_number ask.NoReader = 52

abbrev pub locate_fault_number : LocateFault → ℕ
locate_fault_number (locate.UnknownPool at) = 42
locate_fault_number locate.Memory = 41
locate_fault_number locate.NoReader = 52

abbrev pub submit_fault_of : ReadFault → SubmitFault
submit_fault_of read.Memory = submit.Memory
submit_fault_of read.NoReader = submit.NoReader

abbrev pub ask_fault_of : ReadFault → AskFault
ask_fault_of read.Memory = ask.Memory
ask_fault_of read.NoReader = ask.NoReader

abbrev pub locate_fault_of : ReadFault → LocateFault
locate_fault_of read.Memory = locate.Memory
locate_fault_of read.NoReader = locate.NoReader

-- the receipt that came with the fault
abbrev pub refused_at : SubmitFault → Option Receipt
refused_at (submit.Refused why at) = Some at
refused_at submit.Memory = None
refused_at submit.NoReader = None

abbrev pub fault_at : AskFault → Option Receipt
fault_at (ask.UnknownGroup at) = Some at
fault_at ask.Memory = None
fault_at ask.NoReader = None

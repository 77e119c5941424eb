-- What is wrong with a line, with the keys that are named as bytes.
use Rattle.std.specs.Prelude.{◌≡◌, ℕ, List, Option, Some, None, Result, Ok, Err, IfSome, IfOk, IfErr, OnOk, string_bytes}
use Rattle.pgp_ids.specs.declared.text_fault.TextFault.{TextFault}
use Rattle.pgp_ids.specs.declared.text_fault.TextFault.TheVariants.{LineTooLong, NotJson, NoOp, UnknownKey, BadField, Memory}

-- in the order in which they are told; of several keys the least in byte order is named
pub data LineFault : Type 0 where
  line_too_long : LineFault
  not_json : LineFault
  no_op : LineFault
  unknown_key : List ℕ → LineFault
  bad_field : List ℕ → LineFault

-- what a fault says of its line; one that is out of memory says nothing of it
abbrev pub line_fault_of : TextFault → Option LineFault
line_fault_of LineTooLong = Some line_too_long
line_fault_of NotJson = Some not_json
line_fault_of NoOp = Some no_op
line_fault_of (UnknownKey key) = Some (unknown_key (string_bytes key))
line_fault_of (BadField key) = Some (bad_field (string_bytes key))
line_fault_of Memory = None

-- what a reader answers of a line that says this: its value, or its first fault; one that is out of memory says nothing of it
abbrev pub IsRead : {A : Type 0} → Result A TextFault → Result A LineFault → Type 0
IsRead result said = IfOk result (λ x. said ≡ Ok x) × IfErr result (λ fault. IfSome (line_fault_of fault) (λ f. said ≡ Err f))

-- the same of a reader that puts the value in a place, where this is then
abbrev pub PutsRead : {A : Type 0} → Result (Unit {0}) TextFault → Result A LineFault → A → Type 0
PutsRead result said new = OnOk result (said ≡ Ok new) × IfErr result (λ fault. IfSome (line_fault_of fault) (λ f. said ≡ Err f))

infixl 10 ◌>>=◌
-- what follows, with the value before it; the first fault stays
abbrev pub ◌>>=◌ : {A B : Type 0} → Result A LineFault → (A → Result B LineFault) → Result B LineFault
Ok x >>= rest = rest x
Err fault >>= rest = Err fault

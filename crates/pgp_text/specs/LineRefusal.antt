-- Refusals in answers: the number, the name, and the key or the tree's fault where one is named.
use Rattle.std.specs.Prelude.{ℕ, List, [], ◌∷◌, ◌++◌, codes, Option, Some, None, string_bytes}
use Rattle.serde_json.specs.Data.{Data, string}
use Rattle.pgp_ids.specs.AskRefusal.{ask_refusal_number, ask_refusal_name}
use Rattle.pgp_ids.specs.LocateRefusal.{locate_refusal_number, locate_refusal_name}
use Rattle.pgp_ids.specs.Refusal.{refusal_number, refusal_name, refusal_tree}
use Rattle.pgp_ids.specs.TextFault.{text_fault_number}
use Rattle.pgp_ids.specs.declared.text_fault.TextFault.{TextFault}
use Rattle.pgp_ids.specs.declared.text_fault.TextFault.TheVariants.{LineTooLong, NotJson, NoOp, UnknownKey, BadField, Memory}
use Rattle.pgp_text.specs.Json.{Field, object_with, number_data}
use Rattle.pgp_text.specs.declared.reply.line_refusal.LineRefusal.{LineRefusal}
use Rattle.pgp_text.specs.declared.reply.line_refusal.LineRefusal.TheVariants.{Line, Entry, Ask, Locate}

-- the name of a line's fault
abbrev pub fault_name : TextFault → List ℕ
fault_name LineTooLong = codes "LineTooLong"
fault_name NotJson = codes "NotJson"
fault_name NoOp = codes "NoOp"
fault_name (UnknownKey key) = codes "UnknownKey"
fault_name (BadField key) = codes "BadField"
fault_name Memory = codes "Memory"

-- the key that it names
abbrev pub fault_key : TextFault → Option (List ℕ)
fault_key LineTooLong = None
fault_key NotJson = None
fault_key NoOp = None
fault_key (UnknownKey key) = Some (string_bytes key)
fault_key (BadField key) = Some (string_bytes key)
fault_key Memory = None

-- the number of a refusal
abbrev pub refused_number : LineRefusal → ℕ
refused_number (Line fault) = text_fault_number fault
refused_number (Entry refusal) = refusal_number refusal
refused_number (Ask refusal) = ask_refusal_number refusal
refused_number (Locate refusal) = locate_refusal_number refusal

-- its name
abbrev pub refused_name : LineRefusal → List ℕ
refused_name (Line fault) = fault_name fault
refused_name (Entry refusal) = refusal_name refusal
refused_name (Ask refusal) = ask_refusal_name refusal
refused_name (Locate refusal) = locate_refusal_name refusal

-- the key of the line that it names
abbrev pub refused_key : LineRefusal → Option (List ℕ)
refused_key (Line fault) = fault_key fault
refused_key (Entry refusal) = None
refused_key (Ask refusal) = None
refused_key (Locate refusal) = None

-- the number of the tree's fault
abbrev pub refused_tree : LineRefusal → Option ℕ
refused_tree (Line fault) = None
refused_tree (Entry refusal) = refusal_tree refusal
refused_tree (Ask refusal) = None
refused_tree (Locate refusal) = None

-- a field that may be absent
abbrev pub field_if : {A : Type 0} → List ℕ → (A → Data) → Option A → List Field
field_if key data_of None = []
field_if key data_of (Some x) = (key, data_of x) ∷ []

-- a refusal of this number and name
abbrev pub refusal_data : ℕ → Option (List ℕ) → List ℕ → Option ℕ → Data
refusal_data code key name tree =
    object_with ((codes "code", number_data code) ∷ (field_if (codes "key") string key ++ ((codes "refused", string name) ∷ field_if (codes "tree") number_data tree)))

abbrev pub refused_data : LineRefusal → Data
refused_data r = refusal_data (refused_number r) (refused_key r) (refused_name r) (refused_tree r)

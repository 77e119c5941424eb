-- The numbers and names of the refusals of a question where an object lies.
use Rattle.std.specs.Prelude.{ℕ, List, codes}
use Rattle.pgp_ids.specs.declared.locate_refusal.LocateRefusal.{LocateRefusal}
use Rattle.pgp_ids.specs.declared.locate_refusal.LocateRefusal.TheVariants.{UnknownPool, Memory}

-- the number of a refusal in answers
abbrev pub locate_refusal_number : LocateRefusal → ℕ
locate_refusal_number UnknownPool = 42
locate_refusal_number Memory = 41

-- the name of a refusal in answers
abbrev pub locate_refusal_name : LocateRefusal → List ℕ
locate_refusal_name UnknownPool = codes "UnknownPool"
locate_refusal_name Memory = codes "Memory"

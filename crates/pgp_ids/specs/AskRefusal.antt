-- The numbers and names of the refusals of a question.
use Rattle.std.specs.Prelude.{ℕ, List, codes}
use Rattle.pgp_ids.specs.declared.ask_refusal.AskRefusal.{AskRefusal}
use Rattle.pgp_ids.specs.declared.ask_refusal.AskRefusal.TheVariants.{UnknownGroup, Memory}

-- the number of a refusal in answers
abbrev pub ask_refusal_number : AskRefusal → ℕ
ask_refusal_number UnknownGroup = 40
ask_refusal_number Memory = 41

-- the name of a refusal in answers
abbrev pub ask_refusal_name : AskRefusal → List ℕ
ask_refusal_name UnknownGroup = codes "UnknownGroup"
ask_refusal_name Memory = codes "Memory"

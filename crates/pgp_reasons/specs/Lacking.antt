-- How many more slots a code would need (this project's own choice).
use Rattle.std.specs.Prelude.{ℕ, ◌-◌, ◌^◌, List, length, min}
use Rattle.std.specs.List.{sum_by}
use Rattle.pgp_ids.specs.Parts.{parts_of}
use Rattle.pgp_ids.specs.SlotSet.{common}
use Rattle.pgp_ids.specs.declared.part.Part.{Part}
use Rattle.pgp_code.specs.declared.any.AnyCode.{AnyCode}
use Rattle.pgp_code.specs.declared.any.AnyCode.TheVariants.{Replicated, Erasure, Grouped}

-- how many more slots of the part would be enough
abbrev pub lacking_of_part : List ℕ → Part → ℕ
lacking_of_part slots part = part.least - length (common part.slots slots)

-- how many more slots would be enough, 0 where these are: one where a copy is wanted and none is there, those that k shards
-- have more, and what each part lacks, since parts share no slot (as far as a number of the machine goes, which no pool's parts
-- come near)
abbrev pub lacking : AnyCode → List ℕ → ℕ
lacking (Replicated code) slots = 1 - length slots
lacking (Erasure code) slots = code.k - length slots
lacking (Grouped code) slots = min (sum_by (lacking_of_part slots) (parts_of code.groups)) (2 ^ 64 - 1)

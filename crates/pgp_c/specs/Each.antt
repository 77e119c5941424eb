-- Values that C gives, where each number is in its range. This project's own choice.
use Rattle.std.specs.Prelude.{◌≡◌, List, [], ◌∷◌, Option, Some, None, Result, Ok, Err, OnOk, IfErr}
use Rattle.pgp_lines.specs.Shapes.{◌>>=◌}
use Rattle.pgp_c.specs.declared.status.Status.{Status}
use Rattle.pgp_c.specs.declared.status.Status.TheVariants.{Done, RoomTooSmall, NoMemory, NotOpen, AlreadyOpen, BadArgument, NoList, NoLines}

-- the values that C gives, where each is one
abbrev pub each_given : {A B : Type 0} → (A → Option B) → List A → Option (List B)
each_given of_c [] = Some []
each_given of_c (it ∷ more) = do
  value ← of_c it
  values ← each_given of_c more
  Some (value ∷ values)

-- why nothing was made of what C gives: it is no value, or there was no memory, whatever it is
abbrev pub IsWhy : {A : Type 0} → Status → Option A → Type 0
IsWhy BadArgument value = value ≡ None
IsWhy NoMemory value = Unit {0}
IsWhy Done value = ⊥
IsWhy RoomTooSmall value = ⊥
IsWhy NotOpen value = ⊥
IsWhy AlreadyOpen value = ⊥
IsWhy NoList value = ⊥
IsWhy NoLines value = ⊥

-- what was made of what C gives, which is this value, if it is one
abbrev pub IsGiven : {A : Type 0} → Result A Status → Option A → Type 0
IsGiven (Ok made) value = value ≡ Some made
IsGiven (Err status) value = IsWhy status value

-- the same of what was put in a place, where this is then
abbrev pub PutsGiven : {A : Type 0} → Result (Unit {0}) Status → Option A → A → Type 0
PutsGiven result value new = OnOk result (value ≡ Some new) × IfErr result (λ status. IsWhy status value)

-- The bytes of an object's name, wherever they lie.
use Rattle.std.specs.Prelude.{⊤, ℕ, ◌<◌, List, length, string_bytes}
use Rattle.pgp_ids.specs.declared.object_name.Repr.{Repr}
use Rattle.pgp_ids.specs.declared.object_name.Repr.TheVariants.{Short, Long}

abbrev pub name_bytes : Repr → List ℕ
name_bytes (Short short) = short.bytes
name_bytes (Long string) = string_bytes string

-- a name has memory of its own only where it is too long to lie in its value
abbrev pub IsInPlace : Repr → Type 0
IsInPlace (Short short) = ⊤
IsInPlace (Long string) = 24 < length (string_bytes string)

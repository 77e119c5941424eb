-- JSON values as answers are made of them.
use Rattle.std.specs.Prelude.{ℕ, List, [], ◌∷◌, map, Option, Some, None}
use Rattle.serde_json.specs.Data.{Data, null, number, unsigned, array, object, Members, no_members, member}
use Rattle.serde_json.specs.View.{items_of}

-- a key with its value
abbrev pub Field : Type 0
Field = List ℕ × Data

-- the members of an object, as listed
abbrev pub fields_members : List Field → Members
fields_members [] = no_members
fields_members (f ∷ fs) = member f.0 f.1 (fields_members fs)

-- an object of these members
abbrev pub object_with : List Field → Data
object_with fs = object (fields_members fs)

-- a whole number
abbrev pub number_data : ℕ → Data
number_data n = number (unsigned n)

-- the values of a list in order
abbrev pub list_data : {A : Type 0} → (A → Data) → List A → Data
list_data data_of xs = array (items_of (map data_of xs))

-- null where there is nothing
abbrev pub option_data : {A : Type 0} → (A → Data) → Option A → Data
option_data data_of None = null
option_data data_of (Some x) = data_of x

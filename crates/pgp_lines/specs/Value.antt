-- The value at which a line's tape stands, as the data that `serde_json` reads.
use Rattle.std.specs.Prelude.{List, [], ◌∷◌, length, ◌&&◌, Bool, true, nat_le, Option, Some, None, is_some, option_map, unwrap_or}
use Rattle.std.specs.Float.{float_zero}
use Rattle.json.specs.Find.{InItems}
use Rattle.json.specs.Json as json
use Rattle.json.specs.Token.{Token}
use Rattle.json.specs.Tree.{depth}
use Rattle.serde_json.specs.Data.{Num, unsigned, negative, float, Data, null, boolean, number, string, array, object, Items, no_items, item, Members, no_members, put}
use Rattle.serde_json.specs.Read.{number_of, max_depth}
use Rattle.pgp_lines.specs.Shapes.{items_in}
use Rattle.pgp_lines.specs.declared.command.number.Number.{Number}
use Rattle.pgp_lines.specs.declared.command.number.Number.TheVariants.{Whole, Negative, Real}

abbrev pub num_of : Number → Num
num_of (Whole n) = unsigned n
num_of (Negative z) = negative z
num_of (Real x) = float x

-- What the text of a number stands for. One out of range, which no line has, counts as some float, so that it is a number and no whole one.
abbrev pub number_or_float : Option Num → Data
number_or_float None = number (float float_zero)
number_or_float (Some n) = number n

-- What `serde_json`'s `of_json` gives of a value whose numbers are in range (`of_json-by`, proofs/ValueLemmas.antt, ties the two). The members
-- go in one after another, so the last value of a key stays.
abbrev mutual
  pub json_data : json.Json → Data
  json_data json.null = null
  json_data (json.boolean b) = boolean b
  json_data (json.number s) = number_or_float (number_of s)
  json_data (json.string s) = string s
  json_data (json.array js) = array (items_data js)
  json_data (json.object ms) = object (members_data ms no_members)

  pub items_data : json.Items → Items
  items_data json.no_items = no_items
  items_data (json.item j js) = item (json_data j) (items_data js)

  pub members_data : json.Members → Members → Members
  members_data json.no_members found = found
  members_data (json.member k j ms) found = members_data ms (put k (json_data j) found)

-- each number is in range: a whole one of 64 bits or a finite float
abbrev mutual
  pub has_numbers : json.Json → Bool
  has_numbers json.null = true
  has_numbers (json.boolean b) = true
  has_numbers (json.number s) = is_some (number_of s)
  has_numbers (json.string s) = true
  has_numbers (json.array js) = items_have_numbers js
  has_numbers (json.object ms) = members_have_numbers ms

  pub items_have_numbers : json.Items → Bool
  items_have_numbers json.no_items = true
  items_have_numbers (json.item j js) = has_numbers j && items_have_numbers js

  pub members_have_numbers : json.Members → Bool
  members_have_numbers json.no_members = true
  members_have_numbers (json.member k j ms) = has_numbers j && members_have_numbers ms

-- what `serde_json` reads of a value: arrays and objects nest at most 127 deep, and each number is in range
abbrev pub is_readable : json.Json → Bool
is_readable j = nat_le (depth j) max_depth && has_numbers j

-- The value that the tokens begin with (no value nests deeper than it has tokens); null where they begin with none, as no `Value` does.
unfoldable pub json_of : List Token → json.Json
json_of ts = unwrap_or (option_map (λ read. read.0) (json.value (length ts) ts)) json.null

-- the data of the value that the tokens begin with
abbrev pub view : List Token → Data
view ts = json_data (json_of ts)

-- the tokens begin with the items of an array, and the bracket that closes it
abbrev pub HasItems : List Token → Type 0
HasItems ts = (js : json.Items) × InItems ts js

-- the items up to the bracket that closes their array: those of the array with its opening bracket put back
unfoldable pub items_left : List Token → List Data
items_left ts = unwrap_or (items_in (view (Token.begin_array ∷ ts))) []

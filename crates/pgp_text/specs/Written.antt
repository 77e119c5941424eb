-- What is written of a value and of the fields of an object, by the tokens of JSON.
use Rattle.std.specs.Prelude.{List, [], ◌∷◌, ◌++◌}
use Rattle.json.specs.Token.{Token, key}
use Rattle.json.specs.Tree.{json_tokens}
use Rattle.serde_json.specs.Data.{Data}
use Rattle.serde_json.specs.Written.{outline}
use Rattle.pgp_text.specs.Json.{Field}

-- the tokens of a value
abbrev pub tokens_of : Data → List Token
tokens_of d = json_tokens (outline d)

-- of each field its key and then its value, one field after the other
unfoldable pub fields_tokens : List Field → List Token
fields_tokens [] = []
fields_tokens (f ∷ fs) = key f.0 ∷ (tokens_of f.1 ++ fields_tokens fs)

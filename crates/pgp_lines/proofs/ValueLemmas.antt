-- The data of a line's JSON value: how it is read, and what is found in it.
use Rattle.std.proofs.Common.{◌≡◌, ℕ, List, [], Bool, true, false, ◌&&◌, cond, Option, Some, None, option_map, option_and_then, is_some, bytes_eq, true≢false, refl, sym, ap, ◌∙◌}
use Rattle.std.proofs.lemmas.Slice.Eq.{bytes_eq-Decides}
use Rattle.json.specs.Token.{Token}
use Rattle.json.specs.Lex.{tokens}
use Rattle.json.specs.Json as json
use Rattle.json.specs.Find as json_find
use Rattle.serde_json.specs.Data.{Num, Data, number, array, object, item, Members, no_members, put}
use Rattle.serde_json.specs.Find.{get, get_member}
use Rattle.serde_json.specs.Read.{number_of, of_json, of_items, of_members, max_depth, read}
use Rattle.serde_json.proofs.Views.{get_member-put, get_member-put_other}
use Rattle.pgp_lines.specs.Value.{number_or_float, json_data, items_data, members_data, has_numbers, items_have_numbers, members_have_numbers}

-- ---- how it is read

map_if : {A B : Type 0} (f : A → B) (b : Bool) (x : A) → option_map f (cond b (Some x) None) ≡ cond b (Some (f x)) None
map_if f true x = refl
map_if f false x = refl

then_if : {A B : Type 0} (f : A → Option B) (a b : Bool) (x : A) (y : B) → f x ≡ cond b (Some y) None → option_and_then f (cond a (Some x) None) ≡ cond (a && b) (Some y) None
then_if f true b x y is = is
then_if f false b x y is = refl

number_if : (o : Option Num) → option_map number o ≡ cond (is_some o) (Some (number_or_float o)) None
number_if None = refl
number_if (Some n) = refl

-- a value has data where each of its numbers is in range
mutual
  of_json-by : (j : json.Json) → of_json j ≡ cond (has_numbers j) (Some (json_data j)) None
  of_json-by (json.number s) = number_if (number_of s)
  of_json-by (json.array js) = rw (of_items-by js) (map_if array (items_have_numbers js) (items_data js))
  of_json-by (json.object ms) = rw (of_members-by ms no_members) (map_if object (members_have_numbers ms) (members_data ms no_members))
  of_json-by j = refl

  of_items-by : (js : json.Items) → of_items js ≡ cond (items_have_numbers js) (Some (items_data js)) None
  of_items-by json.no_items = refl
  of_items-by (json.item j js) =
      let rest : option_map (item (json_data j)) (of_items js) ≡ cond (items_have_numbers js) (Some (item (json_data j) (items_data js))) None =
      rw (of_items-by js) (map_if (item (json_data j)) (items_have_numbers js) (items_data js)) in
      rw (of_json-by j) (then_if _ (has_numbers j) (items_have_numbers js) (json_data j) _ rest)

  of_members-by : (ms : json.Members) (found : Members) → of_members ms found ≡ cond (members_have_numbers ms) (Some (members_data ms found)) None
  of_members-by json.no_members found = refl
  of_members-by (json.member k j ms) found =
      rw (of_json-by j) (then_if _ (has_numbers j) (members_have_numbers ms) (json_data j) _ (of_members-by ms (put k (json_data j) found)))

abbrev pub whole : Option (json.Json × List Token) → Option Data
whole o = option_and_then of_json (option_and_then (λ p. json.if_last p.0 p.1) o)

-- a text that is a value
pub read-whole : (text : List ℕ) (j : json.Json) → json.value max_depth (tokens text) ≡ Some (j, []) → read text ≡ cond (has_numbers j) (Some (json_data j)) None
read-whole text j e = ap whole e ∙ of_json-by j

-- ---- what is found in it

abbrev or_else : Option Data → Option Data → Option Data
or_else None other = other
or_else (Some d) other = Some d

last_or : (later : Option json.Json) (here : Option json.Json) (other found : Option Data) → or_else (option_map json_data here) found ≡ other
    → or_else (option_map json_data later) other ≡ or_else (option_map json_data (json_find.later_or later here)) found
last_or None here other found e = sym e
last_or (Some j) here other found e = refl

apart : (k q : List ℕ) → bytes_eq k q ≡ false → q ≡ k → ⊥
apart k q e same = true≢false (sym ((bytes_eq-Decides k q).1 (sym same)) ∙ e)

here_or : (b : Bool) (k q : List ℕ) (j : json.Json) (found : Members) → bytes_eq k q ≡ b
    → or_else (option_map json_data (cond b (Some j) None)) (get_member q found) ≡ get_member q (put k (json_data j) found)
here_or true k q j found e =
    let same : k ≡ q = (bytes_eq-Decides k q).0 e in
    sym (get_member-put k (json_data j) found) ∙ ap (λ name. get_member name (put k (json_data j) found)) same
here_or false k q j found e =
    sym (get_member-put_other q k (json_data j) found (apart k q e))

-- the value at a key is what the last member of it has, or what stood there before
get_member-members_data : (q : List ℕ) (ms : json.Members) (found : Members) → get_member q (members_data ms found) ≡ or_else (option_map json_data (json_find.get_member q ms)) (get_member q found)
get_member-members_data q json.no_members found = refl
get_member-members_data q (json.member k j ms) found =
    get_member-members_data q ms (put k (json_data j) found)
    ∙ last_or (json_find.get_member q ms) (cond (bytes_eq k q) (Some j) None) _ (get_member q found) (here_or (bytes_eq k q) k q j found refl)

or_none : (o : Option Data) → or_else o None ≡ o
or_none None = refl
or_none (Some d) = refl

number_has_none : (q : List ℕ) (o : Option Num) → get q (number_or_float o) ≡ None
number_has_none q None = refl
number_has_none q (Some n) = refl

-- the value at a key
pub get-json_data : (q : List ℕ) (j : json.Json) → get q (json_data j) ≡ option_map json_data (json_find.get q j)
get-json_data q (json.number s) = number_has_none q (number_of s)
get-json_data q (json.object ms) = get_member-members_data q ms no_members ∙ or_none (option_map json_data (json_find.get_member q ms))
get-json_data q j = refl

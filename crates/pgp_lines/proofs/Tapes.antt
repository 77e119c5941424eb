-- The value that a line's tokens are, and those that are found in it.
use Rattle.std.proofs.Common.{◌≡◌, ℕ, ◌≤◌, List, [], ◌∷◌, ◌++◌, length, Option, Some, None, option_map, MatchOption, refl, sym, ap, ◌∙◌, subst, arith, append_assoc, length-append}
use Rattle.json.specs.Token.{Token}
use Rattle.json.specs.Json as json
use Rattle.json.specs.Find as json_find
use Rattle.json.specs.Tree.{json_tokens, items_tokens, members_tokens, depth, items_depth, members_depth}
use Rattle.json.proofs.Grammar.{closed_array}
use Rattle.json.proofs.Found.{items_close, items_go_on}
use Rattle.json.proofs.Printed.Trees.{value-json_tokens}
use Rattle.json.proofs.Unique.Spelling.{value-json_tokens_back}
use Rattle.serde_json.specs.Find as find
use Rattle.pgp_lines.specs.Shapes.{items_list, items_in}
use Rattle.pgp_lines.specs.Value.{json_data, items_data, json_of, view, HasItems, items_left}
use Rattle.pgp_lines.proofs.ValueLemmas.{get-json_data}

-- ---- the value that tokens begin with

-- a value nests no deeper than it has tokens
mutual
  depth-tokens : (j : json.Json) → depth j ≤ length (json_tokens j)
  depth-tokens (json.array js) = omega (arith, items_depth-tokens js)
  depth-tokens (json.object ms) = omega (arith, members_depth-tokens ms)
  depth-tokens j = omega arith

  items_depth-tokens : (js : json.Items) → items_depth js ≤ length (items_tokens js)
  items_depth-tokens json.no_items = omega arith
  items_depth-tokens (json.item j js) = omega (arith, depth-tokens j, items_depth-tokens js, length-append (json_tokens j) (items_tokens js))

  members_depth-tokens : (ms : json.Members) → members_depth ms ≤ length (members_tokens ms)
  members_depth-tokens json.no_members = omega arith
  members_depth-tokens (json.member k j ms) = omega (arith, depth-tokens j, members_depth-tokens ms, length-append (json_tokens j) (members_tokens ms))

json_of-tokens : (j : json.Json) (rest : List Token) → json_of (json_tokens j ++ rest) ≡ j
unfolding json_of
json_of-tokens j rest =
    let within : depth j ≤ length (json_tokens j ++ rest) = omega (arith, depth-tokens j, length-append (json_tokens j) rest) in
    rw (value-json_tokens j (length (json_tokens j ++ rest)) rest within)

-- the value is what any reading of the tokens finds
pub json_of-is : (ts : List Token) (j : json.Json) → json_find.BeginsWith ts j → json_of ts ≡ j
json_of-is ts j begins = ap json_of (value-json_tokens_back begins.0 ts begins.1 j begins.2) ∙ json_of-tokens j begins.1

pub begins : (ts : List Token) → json_find.HasValue ts → json_find.BeginsWith ts (json_of ts)
begins ts has = subst (json_find.BeginsWith ts) (sym (json_of-is ts has.0 has.1)) has.1

-- the value at a key
found_at : (r : Option (List Token)) (o : Option json.Json) → json_find.Finds r o → option_map view r ≡ option_map json_data o
found_at None o none = rw none
found_at (Some ts) o found = rw (found.1, json_of-is ts found.0 found.2)

pub got : (key : List ℕ) (ts : List Token) (r : Option (List Token)) → json_find.BeginsWith ts (json_of ts) → ((j : json.Json) → json_find.BeginsWith ts j → json_find.Finds r (json_find.get key j))
    → option_map view r ≡ find.get key (view ts)
got key ts r has is = found_at r _ (is _ has) ∙ sym (get-json_data key (json_of ts))

-- ---- the items of an array

-- what an array goes on with are the tokens of its items
abbrev Spelled : json.Items → List Token → Type 0
Spelled js ts = (rest : List Token) × (ts ≡ items_tokens js ++ rest)

spelled_at : (js : json.Items) (ts : List Token) (o : Option (List Token)) → json.after_end_array ts ≡ o → json_find.InItems ts js
    → ((j : json.Json) (more : json.Items) (us : List Token) → js ≡ json.item j more → json_find.InItems us more → Spelled more us) → Spelled js ts
spelled_at js ts (Some rest) e inside later =
    let none = items_close rest js (subst (λ us. json_find.InItems us js) (closed_array ts rest e) inside) in
    rw none (rest, closed_array ts rest e)
spelled_at js ts None e inside later =
    let first = items_go_on ts js e inside in
    let rest = later first.1 first.3 first.2 first.5 first.6 in
    let here : ts ≡ json_tokens first.1 ++ first.2 = value-json_tokens_back first.0 ts first.2 first.1 first.4 in
    let whole = here ∙ ap (λ us. json_tokens first.1 ++ us) rest.1 ∙ sym (append_assoc (json_tokens first.1) (items_tokens first.3) rest.0) in
    rw first.5 (rest.0, whole)

items_spelled : (js : json.Items) (ts : List Token) → json_find.InItems ts js → Spelled js ts
items_spelled json.no_items ts inside = spelled_at json.no_items ts (json.after_end_array ts) refl inside (λ j more us is. absurd cc)
items_spelled (json.item k js) ts inside =
    spelled_at (json.item k js) ts (json.after_end_array ts) refl inside
    (λ j more us is within. let same : js ≡ more = cc in subst (λ all. Spelled all us) same (items_spelled js us (subst (json_find.InItems us) (sym same) within)))

-- the items that are left are those of any reading of the tokens
pub items_left-is : (ts : List Token) (js : json.Items) → json_find.InItems ts js → items_left ts ≡ items_list (items_data js)
unfolding items_left
items_left-is ts js inside =
    let spelled = items_spelled js ts inside in
    rw (spelled.1, json_of-tokens (json.array js) spelled.0)

-- an array, by the first of its items
pub items_got : (ts : List Token) (r : Option (List Token)) → json_find.BeginsWith ts (json_of ts)
    → ((j : json.Json) → json_find.BeginsWith ts j → MatchOption r (json_find.as_array j ≡ None) (λ first. (js : json.Items) × (j ≡ json.array js) × json_find.InItems first js))
    → option_map items_left r ≡ items_in (view ts)
items_got ts None has is = let none : json_find.as_array (json_of ts) ≡ None = is _ has in grind arith
items_got ts (Some first) has is =
    let found = is _ has in
    rw (found.1, items_left-is first found.0 found.2)

-- the items that are left, by the next of them
pub next_got : (old : List Token) (r : Option (List Token)) (new : List Token) → HasItems old → json_find.NextItem old r new
    → MatchOption r (items_left old ≡ []) (λ ts. (items_left old ≡ view ts ∷ items_left new) × json_find.BeginsWith ts (json_of ts) × HasItems new)
next_got old None new has is = items_left-is old has.0 has.1 ∙ ap (λ js. items_list (items_data js)) (is has.0 has.1)
next_got old (Some ts) new has is =
    let found = is has.0 has.1 in
    let left = items_left-is old has.0 has.1 ∙ ap (λ js. items_list (items_data js)) found.2 in
    (rw (left, json_of-is ts found.0 found.3, items_left-is new found.1 found.4), begins ts (found.0, found.3), (found.1, found.4))

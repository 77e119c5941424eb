-- A walk over the tokens of a value tells whether `serde_json` reads it, and with that what it reads of a text.
use Rattle.std.proofs.Common.{◌≡◌, ℕ, suc, ◌+◌, ◌-◌, max, List, [], ◌∷◌, ◌++◌, Bool, true, false, ◌&&◌, cond, Option, Some, None, option_and_then, is_some, IsSome, nat_le, nat_lt, refl, sym, ap, ◌∙◌, arith, append_assoc, append-nil}
use Rattle.std.proofs.Math.Bool.{and-true}
use Rattle.std.proofs.lemmas.Bool.Decides.{nat_tests}
use Rattle.std.proofs.lemmas.Bool.{le-leb, leb-true}
use Rattle.json.specs.Token.{Token}
use Rattle.json.specs.Lex.{tokens}
use Rattle.json.specs.Json as json
use Rattle.json.specs.Find.{BeginsWith}
use Rattle.json.specs.Tree.{json_tokens, items_tokens, members_tokens, depth, items_depth, members_depth}
use Rattle.json.proofs.Found.{Some_inj, document-BeginsWith, one_reading}
use Rattle.json.proofs.Nesting.{value-depth}
use Rattle.json.proofs.Printed.Trees.{value-json_tokens}
use Rattle.json.proofs.Unique.Spelling.{value-json_tokens_back, tokens-document}
use Rattle.serde_json.specs.Read.{number_of, read}
use Rattle.pgp_lines.specs.Value.{json_data, has_numbers, items_have_numbers, members_have_numbers, is_readable, view}
use Rattle.pgp_lines.proofs.ValueLemmas.{whole, read-whole}
use Rattle.pgp_lines.proofs.Tapes.{json_of-is}

-- ---- the walk

-- Each number is in range, and no value nests more than 127 deep, where the tokens stand at this depth.
abbrev pub is_readable_from : ℕ → List Token → Bool
is_readable_from depth [] = true
is_readable_from depth (Token.begin_object ∷ ts) = nat_lt depth 127 && is_readable_from (suc depth) ts
is_readable_from depth (Token.end_object ∷ ts) = is_readable_from (depth - 1) ts
is_readable_from depth (Token.begin_array ∷ ts) = nat_lt depth 127 && is_readable_from (suc depth) ts
is_readable_from depth (Token.end_array ∷ ts) = is_readable_from (depth - 1) ts
is_readable_from depth (Token.key s ∷ ts) = is_readable_from depth ts
is_readable_from depth (Token.string s ∷ ts) = is_readable_from depth ts
is_readable_from depth (Token.number s ∷ ts) = is_some (number_of s) && is_readable_from depth ts
is_readable_from depth (Token.boolean b ∷ ts) = is_readable_from depth ts
is_readable_from depth (Token.null ∷ ts) = is_readable_from depth ts
is_readable_from depth (Token.bad ∷ ts) = is_readable_from depth ts

-- no deeper than so deep, in numbers that are in range
abbrev fits : ℕ → json.Json → Bool
fits d j = nat_le (depth j + d) 127 && has_numbers j

-- a value that opens nothing
shallow : (d : ℕ) (numbers rest : Bool) → nat_le d 127 ≡ true → (numbers && rest) ≡ ((nat_le (0 + d) 127 && numbers) && rest)
shallow d numbers rest is = grind (arith, nat_tests)

-- one level down
opened : (n d : ℕ) (numbers inner rest : Bool) → (nat_le (suc d) 127 ≡ true → inner ≡ ((nat_le (n + suc d) 127 && numbers) && rest))
    → (nat_lt d 127 && inner) ≡ ((nat_le (suc n + d) 127 && numbers) && rest)
opened n d numbers inner rest then = grind (arith, nat_tests)

-- one value and those that follow it
joined : (m n d : ℕ) (here later rest : Bool) → ((nat_le (m + d) 127 && here) && ((nat_le (n + d) 127 && later) && rest)) ≡ ((nat_le (max m n + d) 127 && (here && later)) && rest)
joined m n d here later rest = grind (arith, nat_tests)

-- and up again
closed : (d : ℕ) (rest : List Token) → nat_le (suc d) 127 ≡ true → is_readable_from (suc d - 1) rest ≡ ((nat_le (0 + suc d) 127 && true) && is_readable_from d rest)
closed d rest is = let up : suc d - 1 ≡ d = omega arith in ap (λ n. is_readable_from n rest) up ∙ shallow (suc d) true _ is

-- over the tokens of a value, of items and of members, and those that follow
mutual
  is_readable_from-value : (j : json.Json) (d : ℕ) (rest : List Token) → nat_le d 127 ≡ true → is_readable_from d (json_tokens j ++ rest) ≡ (fits d j && is_readable_from d rest)
  is_readable_from-value (json.array js) d rest is = opened (items_depth js) d (items_have_numbers js) _ _ (λ within. is_readable_from-items js d rest within)
  is_readable_from-value (json.object ms) d rest is = opened (members_depth ms) d (members_have_numbers ms) _ _ (λ within. is_readable_from-members ms d rest within)
  is_readable_from-value j d rest is = shallow d (has_numbers j) _ is

  is_readable_from-items : (js : json.Items) (d : ℕ) (rest : List Token) → nat_le (suc d) 127 ≡ true
      → is_readable_from (suc d) (items_tokens js ++ rest) ≡ ((nat_le (items_depth js + suc d) 127 && items_have_numbers js) && is_readable_from d rest)
  is_readable_from-items json.no_items d rest is = closed d rest is
  is_readable_from-items (json.item j js) d rest is =
      rw (append_assoc (json_tokens j) (items_tokens js) rest, is_readable_from-value j (suc d) (items_tokens js ++ rest) is, is_readable_from-items js d rest is)
      (joined (depth j) (items_depth js) (suc d) (has_numbers j) (items_have_numbers js) _)

  is_readable_from-members : (ms : json.Members) (d : ℕ) (rest : List Token) → nat_le (suc d) 127 ≡ true
      → is_readable_from (suc d) (members_tokens ms ++ rest) ≡ ((nat_le (members_depth ms + suc d) 127 && members_have_numbers ms) && is_readable_from d rest)
  is_readable_from-members json.no_members d rest is = closed d rest is
  is_readable_from-members (json.member k j ms) d rest is =
      rw (append_assoc (json_tokens j) (members_tokens ms) rest, is_readable_from-value j (suc d) (members_tokens ms ++ rest) is, is_readable_from-members ms d rest is)
      (joined (depth j) (members_depth ms) (suc d) (has_numbers j) (members_have_numbers ms) _)

-- a walk over all tokens of a value tells whether it is readable
pub is_readable-walk : (ts : List Token) (b : Bool) → is_readable_from 0 ts ≡ b → (j : json.Json) → ts ≡ json_tokens j → b ≡ is_readable j
is_readable-walk ts b walk j is =
    let all = is ∙ sym (append-nil (json_tokens j)) in
    let top : depth j + 0 ≡ depth j = omega arith in
    sym walk ∙ ap (is_readable_from 0) all ∙ is_readable_from-value j 0 [] refl ∙ and-true _ ∙ ap (λ n. nat_le n 127 && has_numbers j) top

-- ---- what `serde_json` reads of a text

-- a value that nests deeper is not read
too_deep : (ts : List Token) (j : json.Json) → BeginsWith ts j → nat_le (depth j) 127 ≡ false
    → (o : Option (json.Json × List Token)) → json.value 127 ts ≡ o → whole o ≡ None
too_deep ts j has deep None e = refl
too_deep ts j has deep (Some (k, rest)) e =
    let same : j ≡ k = ap (λ p. p.0) (Some_inj (j, has.1) (k, rest) (one_reading has.0 127 ts (j, has.1) (k, rest) has.2 e)) in
    let within = le-leb (depth k) 127 (value-depth 127 ts rest k e) in
    absurd cc

read_at : (b : Bool) (text : List ℕ) (j : json.Json) → json.document text ≡ Some j → nat_le (depth j) 127 ≡ b → read text ≡ cond (b && has_numbers j) (Some (json_data j)) None
read_at true text j is within =
    let ts = tokens-document text j is ∙ sym (append-nil (json_tokens j)) in
    read-whole text j (ap (json.value 127) ts ∙ value-json_tokens j 127 [] (leb-true (depth j) 127 within))
read_at false text j is deep = too_deep (tokens text) j (document-BeginsWith text j is) deep (json.value 127 (tokens text)) refl

-- what is read of a text that the tape takes
pub read-tape : (o : Option json.Json) (text : List ℕ) (ts : List Token) → json.document text ≡ o → (ts ≡ tokens text) × IsSome o
    → ((j : json.Json) → o ≡ Some j → BeginsWith ts j) → (readable : Bool) → ((j : json.Json) → ts ≡ json_tokens j → readable ≡ is_readable j)
    → read text ≡ cond readable (Some (view ts)) None
read-tape None text ts is whole has readable tells = absurd cc
read-tape (Some j) text ts is whole has readable tells =
    rw (json_of-is ts j (has j refl), tells j (whole.0 ∙ tokens-document text j is)) (read_at (nat_le (depth j) 127) text j is refl)

-- what the tape refuses has no value
pub read-none : (o : Option (json.Json × List Token)) (text : List ℕ) → json.value 127 (tokens text) ≡ o → json.document text ≡ None → whole o ≡ None
read-none None text e is = refl
read-none (Some (j, t ∷ ts)) text e is = refl
read-none (Some (j, [])) text e is =
    let within = value-depth 127 (tokens text) [] j e in
    let deeper = ap (json.value 128) (value-json_tokens_back 127 (tokens text) [] j e) ∙ value-json_tokens j 128 [] (omega arith) in
    let value : json.document text ≡ Some j = ap (λ o. option_and_then (λ p. json.if_last p.0 p.1) o) deeper in
    absurd cc

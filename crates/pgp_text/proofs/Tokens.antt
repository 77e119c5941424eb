-- Objects, by the tokens of their fields, and lists, by those of their items.
use Rattle.std.proofs.Common.{◌≡◌, ◌+◌, ◌<◌, ◌≤◌, ℕ, List, [], ◌∷◌, ◌++◌, length, get_or, drop, map, refl, sym, ap, ◌∙◌, append_assoc, append-nil}
use Rattle.std.proofs.lemmas.List.{at_drop_more, at_drop_all}
use Rattle.json.specs.Token.{Token, begin_array, begin_object, end_array, end_object, key}
use Rattle.json.specs.Tree.{items_tokens, members_tokens}
use Rattle.serde_json.specs.Data.{Data, Members, member}
use Rattle.serde_json.specs.View.{items_of}
use Rattle.serde_json.specs.Written.{items_outline, members_outline}
use Rattle.serde_json.proofs.Texts.{print-outline}
use Rattle.pgp_text.specs.Json.{Field, list_data, fields_members, object_with}
use Rattle.pgp_text.specs.Written.{tokens_of, fields_tokens}

fields_tokens-append : (fs gs : List Field) → fields_tokens (fs ++ gs) ≡ fields_tokens fs ++ fields_tokens gs
unfolding fields_tokens
fields_tokens-append [] gs = refl
fields_tokens-append (f ∷ fs) gs =
    ap (λ ts. key f.0 ∷ (tokens_of f.1 ++ ts)) (fields_tokens-append fs gs)
    ∙ ap (λ ts. key f.0 ∷ ts) (sym (append_assoc (tokens_of f.1) (fields_tokens fs) (fields_tokens gs)))

-- fields after fields
pub fields_joined : (old : List Token) (fs gs : List Field) → (old ++ fields_tokens fs) ++ fields_tokens gs ≡ old ++ fields_tokens (fs ++ gs)
fields_joined old fs gs = append_assoc old (fields_tokens fs) (fields_tokens gs) ∙ ap (λ ts. old ++ ts) (sym (fields_tokens-append fs gs))

pub fields_then : (fs gs : List Field) (old mid new : List Token) → mid ≡ old ++ fields_tokens fs → new ≡ mid ++ fields_tokens gs
    → new ≡ old ++ fields_tokens (fs ++ gs)
fields_then fs gs old mid new first rest = rest ∙ ap (λ ts. ts ++ fields_tokens gs) first ∙ fields_joined old fs gs

members_tokens-fields : (fs : List Field) → members_tokens (members_outline (fields_members fs)) ≡ fields_tokens fs ++ end_object ∷ []
unfolding fields_tokens
members_tokens-fields [] = refl
members_tokens-fields (f ∷ fs) =
    ap (λ ts. key f.0 ∷ (tokens_of f.1 ++ ts)) (members_tokens-fields fs)
    ∙ ap (λ ts. key f.0 ∷ ts) (sym (append_assoc (tokens_of f.1) (fields_tokens fs) (end_object ∷ [])))

-- an object: its brace, its fields and its brace
pub object_joined : (old : List Token) (fs : List Field) → ((old ++ begin_object ∷ []) ++ fields_tokens fs) ++ end_object ∷ [] ≡ old ++ tokens_of (object_with fs)
object_joined old fs =
    append_assoc (old ++ begin_object ∷ []) (fields_tokens fs) (end_object ∷ []) ∙ append_assoc old (begin_object ∷ []) (fields_tokens fs ++ end_object ∷ [])
    ∙ ap (λ ts. old ++ begin_object ∷ ts) (sym (members_tokens-fields fs))

pub object_written : (fs : List Field) (old first last new : List Token) → first ≡ old ++ begin_object ∷ [] → last ≡ first ++ fields_tokens fs
    → new ≡ last ++ end_object ∷ [] → new ≡ old ++ tokens_of (object_with fs)
object_written fs old first last new begun fields ended =
    ended ∙ ap (λ ts. ts ++ end_object ∷ []) (fields ∙ ap (λ ts. ts ++ fields_tokens fs) begun) ∙ object_joined old fs

pub ruleset token_steps = (fields_joined, object_joined)

-- the text of what is written
pub ruleset text_steps = (print-outline)

-- a field before the other members of an object
pub field_of_members : (old : List Token) (k : List ℕ) (d : Data) (ms : Members)
    → (old ++ fields_tokens ((k, d) ∷ [])) ++ members_tokens (members_outline ms) ≡ old ++ members_tokens (members_outline (member k d ms))
unfolding fields_tokens
field_of_members old k d ms =
    let rest = members_tokens (members_outline ms) in
    append_assoc old (fields_tokens ((k, d) ∷ [])) rest ∙ ap (λ ts. old ++ key k ∷ (ts ++ rest)) (append-nil (tokens_of d))

-- ---- lists

module _ {A : Type 0} (value : A → Data) where
  -- the items, and the bracket behind them
  abbrev pub rest_of : List A → List Token
  rest_of xs = items_tokens (items_outline (items_of (map value xs)))

  -- one item more is written
  pub item_written : (xs : List A) (i : ℕ) (x : A) (old mid whole : List Token) → i < length xs → x ≡ get_or xs i x → mid ≡ old ++ tokens_of (value x)
      → old ++ rest_of (drop i xs) ≡ whole → mid ++ rest_of (drop (i + 1) xs) ≡ whole
  item_written xs i x old mid whole below is written now =
      let next = at_drop_more rest_of xs i x below ∙ ap (λ y. rest_of (y ∷ drop (i + 1) xs)) (sym is) in
      rw (written, append_assoc old (tokens_of (value x)) (rest_of (drop (i + 1) xs))) (ap (λ ts. old ++ ts) (sym next) ∙ now)

  -- all items are written
  pub items_written : (xs : List A) (i : ℕ) (old first last new : List Token) → length xs ≤ i → first ≡ old ++ begin_array ∷ []
      → last ++ rest_of (drop i xs) ≡ first ++ rest_of xs → new ≡ last ++ end_array ∷ [] → new ≡ old ++ tokens_of (list_data value xs)
  items_written xs i old first last new above begun now ended =
      ended ∙ ap (λ ts. last ++ ts) (sym (at_drop_all rest_of xs i above)) ∙ now ∙ ap (λ ts. ts ++ rest_of xs) begun ∙ append_assoc old (begin_array ∷ []) (rest_of xs)

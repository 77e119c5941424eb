-- The fields of lists, one list behind the other.
use Rattle.std.proofs.Common.{◌≡◌, ℕ, ◌+◌, ◌<◌, List, [], ◌++◌, length, take, get_or, flat_map, sym, ap, ◌∙◌}
use Rattle.std.proofs.lemmas.List.{flat_map_more, take_more}
use Rattle.json.specs.Token.{Token}
use Rattle.pgp_text.specs.Json.{Field}
use Rattle.pgp_text.specs.Written.{fields_tokens}
use Rattle.pgp_text.proofs.Tokens.{fields_then}

-- the fields of one item more
pub fields_more : {A : Type 0} (f : A → List Field) (xs : List A) (i : ℕ) (d : A) (old mid new : List Token) → i < length xs
    → mid ≡ old ++ fields_tokens (flat_map f (take i xs)) → new ≡ mid ++ fields_tokens (f (get_or xs i d)) → new ≡ old ++ fields_tokens (flat_map f (take (i + 1) xs))
fields_more f xs i d old mid new within first rest =
    fields_then (flat_map f (take i xs)) (f (get_or xs i d)) old mid new first rest
    ∙ ap (λ fs. old ++ fields_tokens fs) (flat_map_more f [] (take i xs) (get_or xs i d) ∙ ap (flat_map f) (sym (take_more xs i d within)))

-- The least of an object's keys that pass a test, as a walk over the members in the line's order finds it; and keys that an object lacks.
use Rattle.std.proofs.Common.{◌≡◌, ℕ, List, [], ◌∷◌, map, Bool, true, false, cond, Option, Some, None, Ordering, Less, Equal, Greater, filter, fold, nat_cmp, is_eq, not, Bor, refl, sym, ap, ◌∙◌, arith}
use Rattle.std.proofs.lemmas.Cmp.{nat_list_cmp_total}
use Rattle.std.proofs.lemmas.Map.Text.{is_eq-slice_cmp}
use Rattle.std.proofs.lemmas.Slice.Eq.{bytes_eq-Decides}
use Rattle.std.specs.Cmp.Lexicographic.{slice_cmp}
use Rattle.std.specs.Ordering.{match_ordering, ordering_reverse}
use Rattle.json.specs.Json as json
use Rattle.json.specs.Token.{Token}
use Rattle.serde_json.specs.Data.{Data, object, Members, no_members, member, put}
use Rattle.serde_json.specs.Find.{get, get_member}
use Rattle.pgp_lines.specs.Shapes.{lesser, least_with, least, keys_of, is_key, unknown_key_in}
use Rattle.pgp_lines.specs.Value.{json_data, members_data, json_of, view}

-- the keys, as contracts see the code's list of them
abbrev pub texts : List (Bor (List ℕ)) → List (List ℕ)
texts keys = map (λ k. k.now) keys

-- ---- the lesser of two texts

same_text : (a b : List ℕ) → slice_cmp nat_cmp a b ≡ Equal → a ≡ b
same_text a b e = (bytes_eq-Decides a b).0 (sym (is_eq-slice_cmp a b) ∙ ap is_eq e)

reversed : (a b : List ℕ) → slice_cmp nat_cmp b a ≡ ordering_reverse (slice_cmp nat_cmp a b)
reversed a b = nat_list_cmp_total.antisymm b a

lesser-self : (a : List ℕ) → lesser a a ≡ a
lesser-self a = grind arith

lesser-swap : (a b : List ℕ) → lesser a b ≡ lesser b a
lesser-swap a b = grind (arith, reversed a b, same_text a b)

lesser-twice : (a b : List ℕ) → lesser a (lesser a b) ≡ lesser a b
lesser-twice a b = grind arith

lesser-grouped : (a b c : List ℕ) → lesser (lesser a b) c ≡ lesser a (lesser b c)
lesser-grouped a b c =
    grind (arith, same_text a b, same_text b c, reversed a b, reversed b c, reversed a c, nat_list_cmp_total.trans a b c, nat_list_cmp_total.trans c b a)

-- ---- the least of a list

fold-lesser : (a b : List ℕ) (xs : List (List ℕ)) → fold lesser (lesser a b) xs ≡ lesser a (fold lesser b xs)
fold-lesser a b [] = refl
fold-lesser a b (x ∷ xs) = ap (λ y. fold lesser y xs) (lesser-grouped a b x) ∙ fold-lesser a (lesser b x) xs

fold-least_with : (a : List ℕ) (xs : List (List ℕ)) → fold lesser a xs ≡ least_with a (least xs)
fold-least_with a [] = refl
fold-least_with a (x ∷ xs) = fold-lesser a x xs

least_with-swap : (a b : List ℕ) (best : Option (List ℕ)) → least_with a (Some (least_with b best)) ≡ least_with b (Some (least_with a best))
least_with-swap a b None = lesser-swap a b
least_with-swap a b (Some c) = sym (lesser-grouped a b c) ∙ ap (λ x. lesser x c) (lesser-swap a b) ∙ lesser-grouped b a c

least_with-twice : (a : List ℕ) (best : Option (List ℕ)) → least_with a best ≡ least_with a (Some (least_with a best))
least_with-twice a None = sym (lesser-self a)
least_with-twice a (Some b) = sym (lesser-twice a b)

-- the least past one text more
abbrev past : Bool → List ℕ → Option (List ℕ) → Option (List ℕ)
past passes text best = cond passes (Some (least_with text best)) best

first : (passes : Bool) (text : List ℕ) (others : List (List ℕ)) → least (cond passes (text ∷ others) others) ≡ past passes text (least others)
first true text others = ap Some (fold-least_with text others)
first false text others = refl

past-swap : (p q : Bool) (a b : List ℕ) (best : Option (List ℕ)) → past p a (past q b best) ≡ past q b (past p a best)
past-swap true true a b best = ap Some (least_with-swap a b best)
past-swap false q a b best = refl
past-swap p false a b best = refl

past-twice : (p : Bool) (a : List ℕ) (best : Option (List ℕ)) → past p a best ≡ past p a (past p a best)
past-twice true a best = ap Some (least_with-twice a best)
past-twice false a best = refl

-- ---- the least key

module _ (test : List ℕ → Bool) where
  abbrev least_in : Members → Option (List ℕ)
  least_in ms = least (filter test (keys_of ms))

  least-put_at : (o : Ordering) (k l : List ℕ) (d e : Data) (ms : Members) → slice_cmp nat_cmp k l ≡ o → least_in (put k d ms) ≡ past (test k) k (least_in ms)
      → least_in (match_ordering o (member k d (member l e ms)) (member l d ms) (member l e (put k d ms))) ≡ past (test k) k (least_in (member l e ms))
  least-put_at Less k l d e ms is rest = first (test k) k (filter test (keys_of (member l e ms)))
  least-put_at Equal k l d e ms is rest =
      let here = first (test l) l (filter test (keys_of ms)) in
      here ∙ past-twice (test l) l (least_in ms) ∙ ap (past (test l) l) (sym here) ∙ ap (λ text. past (test text) text (least_in (member l e ms))) (sym (same_text k l is))
  least-put_at Greater k l d e ms is rest =
      first (test l) l (filter test (keys_of (put k d ms))) ∙ ap (past (test l) l) rest ∙ past-swap (test l) (test k) l k (least_in ms)
      ∙ ap (past (test k) k) (sym (first (test l) l (filter test (keys_of ms))))

  least-put : (k : List ℕ) (d : Data) (ms : Members) → least_in (put k d ms) ≡ past (test k) k (least_in ms)
  least-put k d no_members = first (test k) k []
  least-put k d (member l e ms) = least-put_at _ k l d e ms refl (least-put k d ms)

  -- the least of those that pass, and of the least so far
  abbrev least_past : Option (List ℕ) → json.Members → Option (List ℕ)
  least_past best json.no_members = best
  least_past best (json.member key j ms) = least_past (past (test key) key best) ms

  -- the least key is that which a walk over the members finds
  least-members : (ms : json.Members) (found : Members) → least_in (members_data ms found) ≡ least_past (least_in found) ms
  least-members json.no_members found = refl
  least-members (json.member key j ms) found =
      least-members ms (put key (json_data j) found) ∙ ap (λ best. least_past best ms) (least-put key (json_data j) found)

-- the least of the keys that are none of these, and of the least so far
abbrev pub least_unknown : List (List ℕ) → Option (List ℕ) → json.Members → Option (List ℕ)
least_unknown keys best ms = least_past (λ key. not (is_key keys key)) best ms

pub unknown-object : (keys : List (List ℕ)) (ts : List Token) (ms : json.Members) → json_of ts ≡ json.object ms → unknown_key_in keys (view ts) ≡ least_unknown keys None ms
unknown-object keys ts ms is = rw is (least-members (λ key. not (is_key keys key)) ms no_members)

-- ---- a key that is none of these

absent-member : (keys : List (List ℕ)) (key : List ℕ) (ms : Members) → is_key keys key ≡ false → least_in (λ k. not (is_key keys k)) ms ≡ None → get_member key ms ≡ None
absent-member keys key no_members other none = refl
absent-member keys key (member l e ms) other none = grind (arith, same_text key l, absent-member keys key ms other)

-- an object with no keys but these lacks it
pub absent : (keys : List (List ℕ)) (key : List ℕ) (d : Data) → is_key keys key ≡ false → unknown_key_in keys d ≡ None → get key d ≡ None
absent keys key (object ms) other none = absent-member keys key ms other none
absent keys key _ other none = refl

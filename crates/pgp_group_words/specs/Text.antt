-- Text as it is put together.
use Rattle.std.specs.Prelude.{◌≡◌, ℕ, ◌==◌, List, [], ◌∷◌, ◌++◌, length, flat_map, codes, if◌then◌else◌}
use Rattle.pgp_group_words.specs.declared.page.Naming.{Naming}

-- bytes, as all text here
abbrev pub Text : Type 0
Text = List ℕ

-- pieces, one right after the other
abbrev pub joined : List Text → Text
joined [] = []
joined (piece ∷ []) = piece
joined (piece ∷ next ∷ pieces) = piece ++ joined (next ∷ pieces)

-- the pieces as a line, with its line feed
abbrev pub line : List Text → Text
line [] = 10 ∷ []
line (piece ∷ pieces) = piece ++ line pieces

-- what stands behind an item of a list that has this many others behind it; `last` is what stands before the last one
abbrev pub joint : Text → ℕ → Text
joint last others = if others == 0 then [] else (if others == 1 then last else codes ", ")

-- items with commas between them, and before the last one `last` in place of a comma
abbrev pub listed_with : Text → List Text → Text
listed_with last [] = []
listed_with last (item ∷ items) = item ++ (joint last (length items) ++ listed_with last items)

-- items in a sentence: a, a and b, or a, b and c
abbrev pub listed : List Text → Text
listed items = listed_with (codes " and ") items

-- what is said of each of these, with this before it
abbrev pub text_of_each : {A : Type 0} → Text → (A → Text) → List A → Text
text_of_each before words xs = flat_map (λ x. before ++ words x) xs

-- what a page has: how members and epochs are named on it, and its text
pub record Sheet : Type 0 where
  pub naming : Naming
  pub text : Text

-- the text grew by just this
abbrev pub Puts : (old new : Sheet) → Text → Type 0
Puts old new more = new ≡ record { naming = old.naming; text = old.text ++ more }

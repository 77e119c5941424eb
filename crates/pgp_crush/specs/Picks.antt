-- What a placement has taken so far.
use Rattle.std.specs.Prelude.{ℕ, ℤ, List, [], ◌∷◌, ◌++◌, Bool, false, ◌||◌, nat_eq, Option, Some, None}
use Rattle.std.specs.List.{list_any}
use Rattle.std.specs.Option.{option_map_or}
use Rattle.std.specs.Ordering.{int_eq}
use Rattle.pgp_crush.specs.declared.candidate.Pick.{Pick}

-- the items taken, and their leaves in the same order, as an answer lists them
pub record Picks : Type 0 where
  pub items : List ℤ
  pub leaves : List (Option ℕ)

abbrev pub no_picks : Picks
no_picks = record { items = []; leaves = [] }

-- with one more, if there is one
abbrev pub with_pick : Picks → Option Pick → Picks
with_pick taken None = taken
with_pick taken (Some pick) = record { items = taken.items ++ pick.item ∷ []; leaves = taken.leaves ++ Some pick.leaf ∷ [] }

-- some place has this device
abbrev pub has_leaf : List (Option ℕ) → ℕ → Bool
has_leaf leaves osd = list_any (λ place. option_map_or (nat_eq osd) place false) leaves

-- its item or its leaf is taken already
abbrev pub is_taken : Picks → Pick → Bool
is_taken taken pick = list_any (λ item. int_eq item pick.item) taken.items || has_leaf taken.leaves pick.leaf

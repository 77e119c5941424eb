-- The placement of an erasure pool: each position keeps its place, whatever becomes of the others.
use Rattle.std.specs.Prelude.{◌≡◌, ℕ, ℤ, ◌<◌, List, length, map, Bool, true, false, not, ◌||◌, ◌&&◌, nat_eq, nat_lt, Option, None, Some, slice_index_or}
use Rattle.std.specs.List.{list_any, range_with_len}
use Rattle.std.specs.Option.{option_map_or, option_and_then}
use Rattle.std.specs.Ordering.{int_eq}
use Rattle.pgp_crush.specs.declared.descent.Rank.TheVariants.{Spread}
use Rattle.pgp_crush.specs.declared.candidate.Candidate.{Candidate}
use Rattle.pgp_crush.specs.declared.candidate.Candidate.TheVariants.{Early, Unfit, Fit}
use Rattle.pgp_crush.specs.Least.{least_below}
use Rattle.pgp_crush.specs.Candidate.{Input, candidate}
use Rattle.pgp_crush.specs.FirstN.{try_limit}

-- A cell is the try of a position in a round; below the item found each bucket chooses with a number raised by the position.
abbrev pub cell : Input → ℕ → ℕ → ℕ → Candidate
cell i n round position = candidate i (Spread position round n) position

-- A table gives each of n positions a round, or none.
abbrev pub round_of : List (Option ℕ) → ℕ → Option ℕ
round_of table position = slice_index_or table position None

-- a cell stands before another: in an earlier round, or in the same one at an earlier position
abbrev pub stands_before : ℕ → ℕ → ℕ → ℕ → Bool
stands_before own q round position = nat_lt own round || (nat_eq own round && nat_lt q position)

-- the cell has this item
abbrev pub has_item : ℤ → Candidate → Bool
has_item item Early = false
has_item item Unfit = false
has_item item (Fit pick) = int_eq pick.item item

-- position q has this item by a cell that stands before the given one
abbrev pub has_before : Input → ℕ → List (Option ℕ) → ℕ → ℕ → ℤ → ℕ → Bool
has_before i n table round position item q =
    option_map_or (λ own. stands_before own q round position && has_item item (cell i n own q)) (round_of table q) false

-- such a cell ends the search of its position: it came to a device too early, or it has an item that no position has by a cell
-- that stands before it
abbrev pub settled_by : Input → ℕ → List (Option ℕ) → ℕ → ℕ → Candidate → Bool
settled_by i n table position round Early = true
settled_by i n table position round Unfit = false
settled_by i n table position round (Fit pick) = not (list_any (has_before i n table round position pick.item) (range_with_len 0 n))

-- the position's cell in this round ends its search
abbrev pub settles : Input → ℕ → List (Option ℕ) → ℕ → ℕ → Bool
settles i n table position round = settled_by i n table position round (cell i n round position)

-- the table of a placement: each position has the least round whose cell ends its search
pub record IsTable (i : Input) (n : ℕ) (table : List (Option ℕ)) : Type 0 where
  pub size : length table ≡ n
  pub least : (position : ℕ) → position < n → round_of table position ≡ least_below (settles i n table position) try_limit

-- the leaf of a cell
abbrev pub leaf_in : Candidate → Option ℕ
leaf_in Early = None
leaf_in Unfit = None
leaf_in (Fit pick) = Some pick.leaf

-- what a position is given: the leaf of its cell
abbrev pub place_at : Input → ℕ → List (Option ℕ) → ℕ → Option ℕ
place_at i n table position = option_and_then (λ round. leaf_in (cell i n round position)) (round_of table position)

-- the places of n positions: of each the leaf of its cell in the round that a table gives it
pub record IsIndep (i : Input) (n : ℕ) (places : List (Option ℕ)) : Type 0 where
  pub table : List (Option ℕ)
  pub is_table : IsTable i n table
  pub places_are : places ≡ map (place_at i n table) (range_with_len 0 n)

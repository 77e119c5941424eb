-- What computes the places of an erasure pool: round by round, the positions that are still open are tried in order. It is
-- one function that meets the relation of Indep.
use Rattle.std.specs.Prelude.{ℕ, zero, suc, ℤ, List, map, replicate, Bool, true, false, Option, Some, None, slice_index_or, slice_set, if◌then◌else◌}
use Rattle.std.specs.List.{list_any}
use Rattle.std.specs.Ordering.{int_eq}
use Rattle.pgp_crush.specs.declared.candidate.Candidate.{Candidate}
use Rattle.pgp_crush.specs.declared.candidate.Candidate.TheVariants.{Early, Unfit, Fit}
use Rattle.pgp_crush.specs.declared.indep.Cell.{Cell}
use Rattle.pgp_crush.specs.declared.indep.Cell.TheVariants.{Open, Gone, Held}
use Rattle.pgp_crush.specs.Candidate.{Input}
use Rattle.pgp_crush.specs.FirstN.{try_limit}
use Rattle.pgp_crush.specs.Indep.{cell}

abbrev pub is_open : Cell → Bool
is_open Open = true
is_open Gone = false
is_open (Held pick) = false

-- the position holds this item
abbrev pub cell_holds : ℤ → Cell → Bool
cell_holds item Open = false
cell_holds item Gone = false
cell_holds item (Held pick) = int_eq pick.item item

-- what an open position has after a try
abbrev pub after_try : List Cell → Candidate → Cell
after_try cells Early = Gone
after_try cells Unfit = Open
after_try cells (Fit pick) = if list_any (cell_holds pick.item) cells then Open else Held pick

-- what a position has after it was looked at: one that is still open is tried
abbrev pub after_look : List Cell → Cell → Candidate → Cell
after_look cells Open try = after_try cells try
after_look cells Gone try = Gone
after_look cells (Held pick) try = Held pick

-- the positions after one of them was looked at
abbrev pub cells_with : Input → ℕ → ℕ → List Cell → ℕ → List Cell
cells_with i n round cells position =
    slice_set cells position (after_look cells (slice_index_or cells position Open) (cell i n round position))

-- after the first positions of a round were
unfoldable pub cells_row : Input → ℕ → ℕ → List Cell → ℕ → List Cell
cells_row i n round cells zero = cells
cells_row i n round cells (suc position) = cells_with i n round (cells_row i n round cells position) position

-- after the first rounds
unfoldable pub cells_after : Input → ℕ → ℕ → List Cell
cells_after i n zero = replicate n Open
cells_after i n (suc round) = cells_row i n round (cells_after i n round) n

-- the leaf that a position holds
abbrev pub leaf_held : Cell → Option ℕ
leaf_held Open = None
leaf_held Gone = None
leaf_held (Held pick) = Some pick.leaf

-- the places of n positions: what they hold after all rounds
abbrev pub indep : Input → ℕ → List (Option ℕ)
indep i n = map leaf_held (cells_after i n try_limit)

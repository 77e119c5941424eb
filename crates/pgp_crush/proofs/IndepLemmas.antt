-- What the positions hold, cell by cell, is what any table of the placement says, and there is one table.
use Rattle.std.proofs.Common.{◌≡◌, ◌<◌, ◌≤◌, ℕ, ◌+◌, zero, suc, ℤ, List, length, map, replicate, take, get_or, set, Bool, true, false, not, cond, ◌&&◌, nat_lt, inl, inr, refl, arith, ap, sym, ◌∙◌, add-one, Option, Some, None}
use Rattle.std.specs.List.{list_any, range_with_len}
use Rattle.std.specs.Option.{option_map_or}
use Rattle.std.proofs.lemmas.List.{get_or_read, get_or-set_same, get_or-set_other, set-get_or, length-set, length-map, get_or-map, take-replicate, get_or-replicate, length-replicate, ext_get_or}
use Rattle.std.proofs.lemmas.List.FromFn.{length-map-range_with_len, get_or-map-range_with_len, fill_by_all}
use Rattle.std.proofs.lemmas.Bool.{cases_eq, cases_lt}
use Rattle.std.proofs.lemmas.Bool.Decides.{nat_tests}
use Rattle.std.proofs.lemmas.Option.{slice_get-get_or}
use Rattle.pgp_lists.proofs.Lists.{none-at}
use Rattle.pgp_lists.proofs.Ranges.{list_any-range}
use Rattle.pgp_crush.specs.declared.candidate.Candidate.{Candidate}
use Rattle.pgp_crush.specs.declared.candidate.Candidate.TheVariants.{Early, Unfit, Fit}
use Rattle.pgp_crush.specs.declared.indep.Cell.{Cell}
use Rattle.pgp_crush.specs.declared.indep.Cell.TheVariants.{Open, Gone, Held}
use Rattle.pgp_crush.specs.Candidate.{Input}
use Rattle.pgp_crush.specs.Least.{least_from}
use Rattle.pgp_crush.specs.Indep.{cell, round_of, stands_before, has_item, has_before, settled_by, settles, IsTable, place_at, IsIndep}
use Rattle.pgp_crush.specs.Cells.{is_open, cell_holds, after_try, after_look, cells_with, cells_row, cells_after, leaf_held, indep}
use Rattle.pgp_crush.proofs.LeastLemmas.{next_least, least_from-more, least_from-same, least_from-found, least_from-below}

-- ---- one cell after the other

pub cells_row-more : (i : Input) (n round : ℕ) (cells : List Cell) (p : ℕ) → cells_row i n round cells (p + 1) ≡ cells_with i n round (cells_row i n round cells p) p
unfolding cells_row
cells_row-more i n round cells p = ap (cells_row i n round cells) (add-one p)

pub cells_after-more : (i : Input) (n round : ℕ) → cells_after i n (round + 1) ≡ cells_row i n round (cells_after i n round) n
unfolding cells_after
cells_after-more i n round = ap (cells_after i n) (add-one round)

pub cells_after-start : (i : Input) (n : ℕ) → n ≤ 16 → take n (replicate 16 Open) ≡ cells_after i n 0
unfolding cells_after
cells_after-start i n h = take-replicate n 16 Open h

pub ruleset row_steps = (cells_row-more, get_or_read)

row-size : (i : Input) (n round : ℕ) (cells : List Cell) (p : ℕ) → length (cells_row i n round cells p) ≡ length cells
unfolding cells_row
row-size i n round cells zero = refl
row-size i n round cells (suc p) = length-set (cells_row i n round cells p) p _ ∙ row-size i n round cells p

pub after-size : (i : Input) (n round : ℕ) → length (cells_after i n round) ≡ n
unfolding cells_after
after-size i n zero = length-replicate n Open
after-size i n (suc round) = row-size i n round (cells_after i n round) n ∙ after-size i n round

-- ---- once no position is open, the rounds that are left change nothing

row-settled : (i : Input) (n round : ℕ) (cells : List Cell) (p : ℕ) → list_any is_open cells ≡ false → p ≤ length cells → cells_row i n round cells p ≡ cells
unfolding cells_row
row-settled i n round cells zero none h = refl
row-settled i n round cells (suc p) none h =
    let shut = none-at is_open cells p (get_or cells p Open) none (slice_get-get_or cells p Open (omega arith)) in
    let kept : after_look cells (get_or cells p Open) (cell i n round p) ≡ get_or cells p Open = grind arith in
    ap (λ (c : List Cell). cells_with i n round c p) (row-settled i n round cells p none (omega arith)) ∙ ap (set cells p) kept ∙ set-get_or cells p Open

pub cells_after-settled : (i : Input) (n round : ℕ) → list_any is_open (cells_after i n round) ≡ false → round ≤ 51 → cells_after i n round ≡ cells_after i n 51
unfolding cells_after
cells_after-settled i n round none low = until 51 low
  where
    until : (m : ℕ) → round ≤ m → cells_after i n round ≡ cells_after i n m
    until zero low = let same : round ≡ zero = omega arith in rw same
    until (suc m) low = elim (cases_lt m round) [
      | inl last ↦ let same : round ≡ suc m = omega arith in rw same
      | inr more ↦
          sym (row-settled i n m (cells_after i n round) n none (omega (arith, after-size i n round)))
          ∙ ap (λ (cells : List Cell). cells_row i n m cells n) (until m more)
    ]

pub ruleset round_steps = (cells_after-start, cells_after-more, cells_after-settled)

-- ---- what a position holds

-- what a position holds by its own cell
abbrev cell_held : Candidate → Cell
cell_held Early = Gone
cell_held Unfit = Open
cell_held (Fit pick) = Held pick

-- in how many rounds position q was looked at, once the first p positions of a round were
abbrev looked_at : ℕ → ℕ → ℕ → ℕ
looked_at round p q = cond (nat_lt q p) (suc round) round

before-is : (own round p q : ℕ) → stands_before own q round p ≡ nat_lt own (looked_at round p q)
before-is own round p q = grind (arith, nat_tests)

module _ (i : Input) (n : ℕ) where
  -- the positions before the cell of position p in a round was looked at
  abbrev before_cell : ℕ → ℕ → List Cell
  before_cell round p = cells_row i n round (cells_after i n round) p

  before_cell-size : (round p : ℕ) → length (before_cell round p) ≡ n
  before_cell-size round p = row-size i n round (cells_after i n round) p ∙ after-size i n round

  -- the cell of position q in this round ends the search, were it still open
  abbrev ends : ℕ → ℕ → Bool
  ends q round = not (is_open (after_try (before_cell round q) (cell i n round q)))

  abbrev held_by : ℕ → Option ℕ → Cell
  held_by q None = Open
  held_by q (Some own) = cell_held (cell i n own q)

  -- what an open position takes, and what one that isn't open keeps
  step : (round p : ℕ) (o : Option ℕ) → ((own : ℕ) → o ≡ Some own → ends p own ≡ true)
      → after_look (before_cell round p) (held_by p o) (cell i n round p) ≡ held_by p (next_least o (ends p round) round)
  step round p o closed = grind arith

  -- a position holds what the first of its cells gives that ended its search
  row : (round : ℕ) → ((q : ℕ) → q < n → get_or (cells_after i n round) q Open ≡ held_by q (least_from (ends q) 0 round))
      → (p q : ℕ) → p ≤ n → q < n → get_or (before_cell round p) q Open ≡ held_by q (least_from (ends q) 0 (looked_at round p q))
  unfolding cells_row
  row round start zero q h within = let none : looked_at round 0 q ≡ round = grind (arith, nat_tests) in rw none (start q within)
  row round start (suc p) q h within = elim (cases_eq q p) [
    | inl e ↦
        let here : looked_at round p p ≡ round = grind (arith, nat_tests) in
        let done : looked_at round (suc p) p ≡ suc round = grind (arith, nat_tests) in
        rw (e, done, least_from-more (ends p) 0 round round (omega arith)) (get_or-set_same (before_cell round p) p _ Open (omega (arith, before_cell-size round p))
        ∙ ap (λ (c : Cell). after_look (before_cell round p) c (cell i n round p)) (rw here at (row round start p p (omega arith) (omega arith)))
        ∙ step round p (least_from (ends p) 0 round) (λ own is. (least_from-found (ends p) 0 round own is).0))
    | inr other ↦
        let apart : looked_at round (suc p) q ≡ looked_at round p q = grind (arith, nat_tests) in
        rw apart (get_or-set_other (before_cell round p) p q _ Open other ∙ row round start p q (omega arith) within)
  ]

  after : (round q : ℕ) → q < n → get_or (cells_after i n round) q Open ≡ held_by q (least_from (ends q) 0 round)
  unfolding cells_after least_from
  after zero q h = get_or-replicate n q Open Open h
  after (suc round) q h =
      let all : looked_at round n q ≡ suc round = grind (arith, nat_tests) in
      rw all at (row round (after round) n q (omega arith) h)

  -- ---- tables

  module _ (table : List (Option ℕ)) (test : ℕ → ℕ → Bool) (is : (q : ℕ) → q < n → round_of table q ≡ least_from (test q) 0 51) where
    -- a cell ends a search by the table exactly if it does by what the positions hold, where that is so of the cells before it
    settles-is : (round p : ℕ) → round < 51 → p < n
        → ((q : ℕ) → q < n → (own : ℕ) → own < looked_at round p q → test q own ≡ ends q own) → settles i n table p round ≡ ends p round
    settles-is round p early within so_far = by_case (cell i n round p)
      where
        of_held : (item : ℤ) (q : ℕ) (o : Option ℕ) → option_map_or (λ own. has_item item (cell i n own q)) o false ≡ cell_holds item (held_by q o)
        of_held item q o = grind arith

        one : (item : ℤ) (q : ℕ) → q < n → has_before i n table round p item q ≡ cell_holds item (get_or (before_cell round p) q Open)
        one item q h =
            (λ j. option_map_or (λ own. before-is own round p q j && has_item item (cell i n own q)) (is q h j) false)
            ∙ least_from-below (test q) (λ own. has_item item (cell i n own q)) 0 51 (looked_at round p q) (looked_at round p q) (grind (arith, nat_tests)) (omega arith)
            ∙ ap (λ (o : Option ℕ). option_map_or (λ own. has_item item (cell i n own q)) o false)
            (least_from-same (test q) (ends q) 0 (looked_at round p q) (λ own low. so_far q h own (omega arith)))
            ∙ of_held item q (least_from (ends q) 0 (looked_at round p q))
            ∙ ap (cell_holds item) (sym (row round (after round) p q (omega arith) h))

        any : (item : ℤ) → list_any (has_before i n table round p item) (range_with_len 0 n) ≡ list_any (cell_holds item) (before_cell round p)
        any item =
            ap (λ (k : ℕ). list_any (has_before i n table round p item) (range_with_len 0 k)) (sym (before_cell-size round p))
            ∙ list_any-range Open (has_before i n table round p item) (cell_holds item) 0 (before_cell round p)
            (λ q h. ap (has_before i n table round p item) (omega arith) ∙ one item q (omega (arith, before_cell-size round p)))

        by_case : (c : Candidate) → settled_by i n table p round c ≡ not (is_open (after_try (before_cell round p) c))
        by_case c = grind (arith, any)

    -- the places are read off the table, where its rounds are those of the cells that ended the searches
    places-read : ((q : ℕ) → q < n → round_of table q ≡ least_from (ends q) 0 51) → indep i n ≡ map (place_at i n table) (range_with_len 0 n)
    places-read rounds =
        fill_by_all (place_at i n table) (map leaf_held (cells_after i n 51)) n None (length-map (cells_after i n 51) leaf_held ∙ after-size i n 51)
        (λ q h. get_or-map leaf_held (cells_after i n 51) q Open None (omega (arith, after-size i n 51))
        ∙ ap leaf_held (after 51 q h ∙ ap (held_by q) (sym (rounds q h))) ∙ (grind arith))

  -- ---- the table that is there

  abbrev found_table : List (Option ℕ)
  found_table = map (λ q. least_from (ends q) 0 51) (range_with_len 0 n)

  found-at : (q : ℕ) → q < n → round_of found_table q ≡ least_from (ends q) 0 51
  found-at q h = get_or-map-range_with_len (λ q. least_from (ends q) 0 51) 0 n q q None h (omega arith)

  found-is : IsTable i n found_table
  found-is = record {
    size = length-map-range_with_len (λ q. least_from (ends q) 0 51) 0 n;
    least = λ p h. found-at p h
        ∙ least_from-same (ends p) (settles i n found_table p) 0 51 (λ round early. sym (settles-is found_table ends found-at round p (omega arith) h (λ q within own low. refl)));
  }

  -- the places of all positions after all rounds are those of a table
  pub indep-is : IsIndep i n (indep i n)
  indep-is = record { table = found_table; is_table = found-is; places_are = places-read found_table ends found-at found-at }

  -- ---- no other table

  module _ (table : List (Option ℕ)) (is : IsTable i n table) where
    -- the cells of a round end the searches that they should, where those of the rounds before it do
    agree-in : (round : ℕ) → round < 51 → ((q : ℕ) → q < n → (own : ℕ) → own < round → settles i n table q own ≡ ends q own)
        → (p : ℕ) → p ≤ n → (q : ℕ) → q < n → (own : ℕ) → own < looked_at round p q → settles i n table q own ≡ ends q own
    agree-in round early earlier zero h q within own low = earlier q within own (grind (arith, nat_tests))
    agree-in round early earlier (suc p) h q within own low = elim (cases_lt own (looked_at round p q)) [
      | inl before ↦ agree-in round early earlier p (omega arith) q within own before
      | inr late ↦
          let now : own ≡ round = grind (arith, nat_tests) in
          let here : q ≡ p = grind (arith, nat_tests) in
          rw (now, here) (settles-is table (settles i n table) is.least round p early (omega arith) (agree-in round early earlier p (omega arith)))
    ]

    agree : (round : ℕ) → round ≤ 51 → (q : ℕ) → q < n → (own : ℕ) → own < round → settles i n table q own ≡ ends q own
    agree zero h q within own low = absurd (omega arith)
    agree (suc round) h q within own low =
        agree-in round (omega arith) (agree round (omega arith)) n (omega arith) q within own (grind (arith, nat_tests))

    rounds-are : (q : ℕ) → q < n → round_of table q ≡ least_from (ends q) 0 51
    rounds-are q h = is.least q h ∙ least_from-same (settles i n table q) (ends q) 0 51 (agree 51 (omega arith) q h)

    table-is : table ≡ found_table
    table-is = ext_get_or None table found_table (is.size ∙ sym found-is.size) (λ q h. rounds-are q (omega (arith, is.size)) ∙ sym (found-at q (omega (arith, is.size))))

    pub indep-by_table : indep i n ≡ map (place_at i n table) (range_with_len 0 n)
    indep-by_table = places-read table (settles i n table) is.least rounds-are

  pub one_table : (table other : List (Option ℕ)) → IsTable i n table → IsTable i n other → table ≡ other
  one_table table other is also = table-is table is ∙ sym (table-is other also)

pub ruleset tables = (indep-is, indep-by_table)

-- The two exchanges keep the book's rule.
use Rattle.std.proofs.Common.{◌≡◌, ◌≢◌, ℕ, suc, zero, ◌+◌, ◌<◌, ◌≤◌, ◌==◌, Bool, true, false, List, [], ◌∷◌, ◌++◌, length, take, refl, ap, sym, ◌∙◌, subst, arith, inl, length-append, length-set, get_or-set_same, get_or-set_other, None}
use Rattle.std.specs.Prelude.{nat_lt, slice_set}
use Rattle.std.proofs.lemmas.List.{append-nil}
use Rattle.std.proofs.lemmas.Bool.Decides.{nat_tests}
use mathlib.Core.List.{IsPrefix}
use prog.Atomic.{either}
use Rattle.logbook.specs.Pages.{Cell, Nib, nib, cell, keeps, gives, adds, may_make, may_write, no_nib, step, Moves, Goes}
use Rattle.pgp_ids.specs.declared.entry.Entry.{Entry}
use Rattle.pgp_log.specs.Log.{is_legal}
use Rattle.pgp_log.specs.Fits.{fits}
use Rattle.pgp_feed.specs.Book.{IsBookOf, Adds, TakesTurn, turn_key}
use Rattle.pgp_log.proofs.LogLemmas.{legal-snoc}
use Rattle.pgp_feed.proofs.Lengths.{legal-empty}

abbrev pub shown : List Entry → List Entry
shown log = []

abbrev pub moved : List Entry → List Entry → ℕ → Type 0
moved xs ys n = Unit {0}

pub take-whole : (n : ℕ) (log : List Entry) → n ≡ length log → take n log ≡ log
take-whole n [] is = grind (arith)
take-whole n (x ∷ log) is = rw is (ap (λ l. x ∷ l) (take-whole (length log) log refl))

-- a prefix as long as the whole is the whole
prefix_whole : (xs ys : List Entry) → IsPrefix xs ys → length ys ≤ length xs → xs ≡ ys
prefix_whole [] [] p le = refl
prefix_whole [] (y ∷ ys) p le = absurd (omega arith)
prefix_whole (x ∷ xs) [] p le = absurd (cc (p.1))
prefix_whole (x ∷ xs) (y ∷ ys) p le =
    let rest = prefix_whole xs ys (p.0, cc (p.1)) (omega arith) in cc (p.1, rest)

prefix_short : (xs ys : List Entry) → IsPrefix xs ys → length xs ≤ length ys
prefix_short xs ys p = omega (arith, ap length p.1, length-append xs p.0)

-- the words of turns stand behind the two others
cell_behind : (a b : Cell) (turns : List Cell) (k : ℕ) → cell (a ∷ b ∷ turns) (turn_key k) ≡ cell turns k
cell_behind a b turns k = let e : k + 2 ≡ suc (suc k) = omega arith in rw e refl

set_behind : (a b c : Cell) (turns : List Cell) (k : ℕ) → slice_set (a ∷ b ∷ turns) (turn_key k) c ≡ a ∷ b ∷ slice_set turns k c
set_behind a b c turns k = let e : k + 2 ≡ suc (suc k) = omega arith in rw e refl

-- a word that isn't there yet is not at home
cell_there : (turns : List Cell) (k : ℕ) → (cell turns k).1 ≡ true → k < length turns
cell_there [] k is = absurd (cc is)
cell_there (t ∷ turns) zero is = omega arith
cell_there (t ∷ turns) (suc k) is = omega (arith, cell_there turns k is)

-- a further turn is not over
cell_more : (turns : List Cell) (k : ℕ) → cell (turns ++ (0, false) ∷ []) k ≡ cell turns k
cell_more [] zero = refl
cell_more [] (suc k) = refl
cell_more (t ∷ turns) zero = refl
cell_more (t ∷ turns) (suc k) = cell_more turns k

-- nothing is below 0, and no word is behind an empty list
never_below : (k : ℕ) → nat_lt k 0 ≡ (cell [] k).1
never_below zero = refl
never_below (suc k) = grind (arith, nat_tests)

-- with the turn of the next entry over, all up to it are
over_by : (turns : List Cell) (n value k : ℕ) → ((j : ℕ) → (cell turns j).1 ≡ nat_lt j n) → n < length turns
    → (b : Bool) → (k == n) ≡ b → (cell (slice_set turns n (value, true)) k).1 ≡ nat_lt k (n + 1)
over_by turns n value k over there true is =
    let same : k ≡ n = grind (arith, nat_tests) in
    let at : (cell (slice_set turns n (value, true)) n).1 ≡ true = ap (λ (c : Cell). c.1) (get_or-set_same turns n (value, true) (0, false) there) in
    rw same (at ∙ grind (arith, nat_tests))
over_by turns n value k over there false is =
    let other : k ≢ n = grind (arith, nat_tests) in
    let at : (cell (slice_set turns n (value, true)) k).1 ≡ nat_lt k n = ap (λ (c : Cell). c.1) (get_or-set_other turns n k (value, true) (0, false) other) ∙ over k in
    at ∙ grind (arith, nat_tests)

-- the rule of a book whose log is empty, and of which no turn was taken
pub kept_at_first : IsBookOf ((0, true) ∷ (0, true) ∷ []) []
kept_at_first = record { turns = []; words = refl; over = λ k. sym (never_below k); few = omega arith; legal = legal-empty }

-- the words of a book whose log has this length, with these turns
abbrev words : ℕ → List Cell → List Cell
words n turns = (n, true) ∷ (length turns, true) ∷ turns

-- the exchange of the length by whoever holds the next turn
module _ (v : List Entry) (p : Nib) (e : Entry) (old : ℕ) (len : length v ≡ old) (right : p.right ≡ may_write) (key : p.key ≡ turn_key old) (fit : fits v e ≡ None) where
  abbrev next_length : ℕ → ℕ
  next_length n = either (n == old) (old + 1) n

  abbrev Adding : List Cell → List Entry → Type 0
  Adding cs log = (0 < length cs) × ((cell cs 0).1 ≡ true)
      × Goes IsBookOf shown moved 0 (v, (p, None)) next_length (Adds (step 0 old (old + 1) e) (v, (p, None))) cs log

  adds_goes : (turns : List Cell) (log : List Entry) → ((k : ℕ) → (cell turns k).1 ≡ nat_lt k (length log)) → length turns ≤ length log + 1
      → is_legal log ≡ true → v ≡ log → old < length turns → Adding (words (length log) turns) log
  adds_goes turns log over few legal same there =
      let here : length log ≡ old = ap length (sym same) ∙ len in
      let legal' : is_legal (log ++ e ∷ []) ≡ true = legal-snoc log e legal (subst (λ (l : List Entry). fits l e ≡ None) same fit) in
      let turns' : List Cell = slice_set turns old (p.value, true) in
      let longer : length (log ++ e ∷ []) ≡ old + 1 = omega (arith, length-append log (e ∷ []), here) in
      let n : next_length (length log) ≡ length (log ++ e ∷ []) = rw here (grind (arith, nat_tests, longer)) in
      let all : length turns' ≡ length turns = length-set turns old (p.value, true) in
      let is : slice_set ((next_length (length log), true) ∷ (length turns, true) ∷ turns) p.key (p.value, true) ≡ words (length (log ++ e ∷ [])) turns' =
      rw (key, n, all) (set_behind _ _ _ _ _) in
      let over' : (k : ℕ) → (cell turns' k).1 ≡ nat_lt k (length (log ++ e ∷ [])) =
      λ k. rw longer (over_by turns old p.value k (λ j. over j ∙ ap (nat_lt j) here) there (k == old) refl) in (
        omega arith,
        refl,
        (
          gives,
          e ∷ [],
          None,
          right,
          record { turns = turns'; words = is; over = over'; few = omega (arith, all, few, here, longer); legal = legal' },
          inl (refl, refl),
          (ap (λ w. w ++ e ∷ []) (sym same), legal'),
        ),
      )

  -- whatever the book is, the exchange adds the entry to all that was seen
  pub adds_moves : Moves IsBookOf shown moved 0 (v, (p, None)) next_length (Adds (step 0 old (old + 1) e) (v, (p, None)))
  adds_moves cs log kept pre away =
      let is = kept.words in
      let out = away right in
      let at : cell cs p.key ≡ cell kept.turns old = rw (is, key) (cell_behind (length log, true) (length kept.turns, true) kept.turns old) in
      let open_turn : nat_lt old (length log) ≡ false = sym (kept.over old) ∙ (ap (λ (c : Cell). c.1) (sym at) ∙ out.1) in
      let short : length log ≤ length v = grind (arith, nat_tests, len) in
      let same : v ≡ log = prefix_whole v log pre short in
      let there : old < length kept.turns = omega (arith, subst (λ (l : List Cell). p.key < length l) is out.0, key) in
      subst (λ (c : List Cell). Adding c log) (sym is) (adds_goes kept.turns log kept.over kept.few kept.legal same there)

-- the exchange of the number of turns
module _ (v : List Entry) (e : Entry) (old : ℕ) (seen : old ≤ length v) where
  abbrev next_taken : ℕ → ℕ
  next_taken n = either (n == old) (old + 1) n

  abbrev Taking : List Cell → List Entry → Type 0
  Taking cs log = (1 < length cs) × ((cell cs 1).1 ≡ true)
      × Goes IsBookOf shown moved 1 (v, (no_nib, None)) next_taken (TakesTurn (step 1 old (old + 1) e) (v, (no_nib, None))) cs log

  takes_goes : (turns : List Cell) (log : List Entry) → ((k : ℕ) → (cell turns k).1 ≡ nat_lt k (length log)) → length turns ≤ length log + 1
      → is_legal log ≡ true → length v ≤ length log → (b : Bool) → (length turns == old) ≡ b → Taking (words (length log) turns) log
  takes_goes turns log over few legal short true is =
      let here : length turns ≡ old = grind (arith, nat_tests) in
      let all : log ++ [] ≡ log = append-nil log in
      let turns' : List Cell = turns ++ (0, false) ∷ [] in
      let more : length turns' ≡ old + 1 = omega (arith, length-append turns ((0, false) ∷ []), here) in
      let n : next_taken (length turns) ≡ length turns' = rw is (sym more) in (
        omega arith,
        refl,
        (
          adds,
          [],
          None,
          tt,
          record {
            turns = turns';
            words = rw (all, n) refl;
            over = λ k. rw all (ap (λ (c : Cell). c.1) (cell_more turns k) ∙ over k);
            few = rw all (omega (arith, more, seen, short));
            legal = rw all legal;
          },
          inl (refl, refl),
          λ (found : length turns ≡ old). ap (λ (k : ℕ). nib may_make k 0) (omega (arith, here)),
        ),
      )
  takes_goes turns log over few legal short false is =
      let all : log ++ [] ≡ log = append-nil log in
      let n : next_taken (length turns) ≡ length turns = rw is refl in (
        omega arith,
        refl,
        (
          keeps,
          [],
          None,
          tt,
          record { turns = turns; words = rw (all, n) refl; over = rw all over; few = rw all few; legal = rw all legal },
          inl (refl, refl),
          λ (found : length turns ≡ old). absurd (grind (arith, nat_tests)),
        ),
      )

  -- whatever the book is, the exchange takes the turn after what was seen, or finds another number
  pub takes_moves : Moves IsBookOf shown moved 1 (v, (no_nib, None)) next_taken (TakesTurn (step 1 old (old + 1) e) (v, (no_nib, None)))
  takes_moves cs log kept pre away =
      subst (λ (c : List Cell). Taking c log) (sym kept.words)
      (takes_goes kept.turns log kept.over kept.few kept.legal (prefix_short v log pre) (length kept.turns == old) refl)

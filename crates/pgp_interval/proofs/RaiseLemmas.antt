-- A clean epoch raises the flag of the one past interval that holds it.
use Rattle.std.proofs.Common.{◌≡◌, ℕ, zero, suc, ◌+◌, ◌<◌, ◌≤◌, List, [], ◌∷◌, Bool, true, false, ◌&&◌, ◌||◌, map, nat_eq, nat_lt, length, get_or, set, All, refl, ap, ap₂, sym, ◌∙◌, inl, inr, arith}
use Rattle.std.specs.List.Sorted.{IsNonDecreasingBy, IsPartitionPoint}
use Rattle.std.proofs.lemmas.Bool.{cases_Bool, cases_lt, true≢false, eqb-true, eq-eqb}
use Rattle.std.proofs.lemmas.Bool.Decides.{nat_tests}
use Rattle.std.proofs.lemmas.List.{get_or_default}
use Rattle.std.proofs.lemmas.List.Elements.{All-nil, All-cons, All-weaker}
use Rattle.std.proofs.lemmas.List.Kept.{AllPairs-cons}
use Rattle.pgp_ids.specs.declared.past.Past.{Past}
use Rattle.pgp_lists.proofs.Pairs.{AllPairs-nil}
use Rattle.pgp_interval.specs.History.{History}
use Rattle.pgp_interval.specs.ReadWrite.{can_write}
use Rattle.pgp_interval.specs.Runs.{current_first}
use Rattle.pgp_interval.specs.Interval.{LieEndToEnd}
use Rattle.pgp_ids.specs.Past.{raised_at}
use Rattle.pgp_interval.specs.Raised.{raised}
use Rattle.pgp_interval.specs.InOrder.{AreInOrder, holds_epoch}

-- ---- past intervals that lie end to end are in order, and before the current one

pub record LieBefore (from to : ℕ) (past : List Past) : Type 0 where
  pub order : AreInOrder past
  pub after : All (λ p. from ≤ p.first) past
  pub before : All (λ p. p.last < to) past
  pub reaches : from ≤ to

pub LieBefore-current : {C : Type 0} (h : History C) (from : ℕ) (past : List Past) → LieEndToEnd h from past → LieBefore from (current_first h) past
LieBefore-current h from [] ends =
    record {
      order = record { ordered = All-nil (λ p. p.first ≤ p.last); apart = AllPairs-nil (λ p q. p.last < q.first) };
      after = All-nil (λ p. from ≤ p.first);
      before = All-nil (λ p. p.last < current_first h);
      reaches = omega (arith, ends);
    }
LieBefore-current h from (p ∷ past) ends =
    let rest = LieBefore-current h (p.last + 1) past ends.3 in
    record {
      order = record {
        ordered = All-cons (λ q. q.first ≤ q.last) p past ends.1 rest.order.ordered;
        apart = AllPairs-cons (λ a b. a.last < b.first) p past (All-weaker (λ q. p.last + 1 ≤ q.first) (λ q. p.last < q.first) (λ q low. omega arith) past rest.after) rest.order.apart;
      };
      after = All-cons (λ q. from ≤ q.first) p past (omega (arith, ends.0)) (All-weaker (λ q. p.last + 1 ≤ q.first) (λ q. from ≤ q.first) (λ q low. omega (arith, low, ends.0, ends.1)) past rest.after);
      before = All-cons (λ q. q.last < current_first h) p past (omega (arith, rest.reaches)) rest.before;
      reaches = omega (arith, rest.reaches, ends.0, ends.1);
    }

-- ---- the interval that holds the epoch

pub lasts_rise : (past : List Past) → AreInOrder past → IsNonDecreasingBy (λ p. p.last) past
lasts_rise past order i j d low below = elim (cases_lt i j) [
  | inl before ↦ let apart = order.apart i j d before below in let there = order.ordered j d below in omega (arith, apart, there)
  | inr same ↦ let e : i ≡ j = omega arith in omega (arith, ap (λ k. (get_or past k d).last) e)
]

abbrev pub IsPoint : ℕ → List Past → ℕ → Type 0
IsPoint epoch past point = IsPartitionPoint (λ p. nat_lt p.last epoch ≡ true) (λ p. nat_lt p.last epoch ≡ false) past point

pub held_at_point : (epoch : ℕ) (past : List Past) (point : ℕ) → IsPoint epoch past point → point < length past → (d : Past) → (get_or past point d).first ≤ epoch → holds_epoch epoch (get_or past point d) ≡ true
held_at_point epoch past point splits below d opened =
    let late = splits.1 point d (omega arith) below in
    grind (arith, nat_tests)

pub held_by_none_else : (epoch : ℕ) (past : List Past) (point : ℕ) → AreInOrder past → IsPoint epoch past point → (place : ℕ) (d : Past) → place < length past → (place ≡ point → epoch < (get_or past place d).first) → holds_epoch epoch (get_or past place d) ≡ false
held_by_none_else epoch past point order splits place d below other = elim (cases_lt place point) [
  | inl before ↦ let early = splits.0 place d (omega arith) before in grind (arith, nat_tests)
  | inr after ↦ elim (cases_lt point place) [
    | inl behind ↦
        let late = splits.1 point d (omega arith) (omega arith) in
        let apart = order.apart point place d behind below in
        grind (arith, nat_tests)
    | inr same ↦
        let here : epoch < (get_or past place d).first = other (omega arith) in
        grind (arith, nat_tests)
  ]
]

-- ---- its flag

map-fixes : {X : Type 0} (f : X → X) (xs : List X) → ((k : ℕ) (d : X) → k < length xs → f (get_or xs k d) ≡ get_or xs k d) → map f xs ≡ xs
map-fixes f [] same = refl
map-fixes {X = X} f (x ∷ xs) same =
    ap₂ (λ (y : X) (ys : List X). y ∷ ys) (same 0 x (omega arith)) (map-fixes f xs (λ k d below. same (suc k) d (omega arith)))

map-raises : (f : Past → Past) (xs : List Past) (place : ℕ) → place < length xs → ((k : ℕ) (d : Past) → k < length xs → (k ≡ place → ⊥) → f (get_or xs k d) ≡ get_or xs k d) → ((d : Past) → f (get_or xs place d) ≡ record (get_or xs place d) { rw = true }) → map f xs ≡ raised_at place xs
map-raises f [] place below others here = absurd (omega arith)
map-raises f (x ∷ xs) zero below others here =
    ap₂ (λ (y : Past) (ys : List Past). y ∷ ys) (here x)
    (map-fixes f xs (λ k d within. others (suc k) d (omega arith) (λ e. absurd (omega arith))))
map-raises f (x ∷ xs) (suc place) below others here =
    ap₂ (λ (y : Past) (ys : List Past). y ∷ ys) (others 0 x (omega arith) (λ e. absurd (omega arith)))
    (map-raises f xs place (omega arith) (λ k d within other. others (suc k) d (omega arith) (λ e. other (omega arith))) here)

pub set-raised_at : (xs : List Past) (place : ℕ) (p : Past) → place < length xs → p ≡ get_or xs place p → set xs place (record p { rw = true }) ≡ raised_at place xs
set-raised_at [] place p below is = absurd (omega arith)
set-raised_at (x ∷ xs) zero p below is = ap (λ (q : Past). record q { rw = true } ∷ xs) is
set-raised_at (x ∷ xs) (suc place) p below is = ap (λ (rest : List Past). x ∷ rest) (set-raised_at xs place p (omega arith) is)

module _ (enough : List ℕ → Bool) (by_place : Bool) (epoch : ℕ) where
  with_flag : (p : Past) (flag : Bool) → (p.rw || (can_write enough by_place p.members && (holds_epoch epoch p || false))) ≡ flag → raised enough by_place (epoch ∷ []) p ≡ record p { rw = flag }
  with_flag p flag is = ap (λ (b : Bool). let q : Past = record p { rw = b } in q) is

  kept : (p : Past) → (p.rw ≡ false → can_write enough by_place p.members ≡ true → holds_epoch epoch p ≡ false) → raised enough by_place (epoch ∷ []) p ≡ p
  kept p unless =
      with_flag p p.rw (grind (arith, nat_tests, cases_Bool p.rw, cases_Bool (can_write enough by_place p.members), cases_Bool (holds_epoch epoch p), unless))

  rises : (p : Past) → can_write enough by_place p.members ≡ true → holds_epoch epoch p ≡ true → raised enough by_place (epoch ∷ []) p ≡ record p { rw = true }
  rises p can here = with_flag p true (grind (arith, nat_tests, cases_Bool p.rw, can, here))

  abbrev raise : Past → Past
  raise = raised enough by_place (epoch ∷ [])

  -- no interval holds the epoch
  pub none_raised : (past : List Past) → ((k : ℕ) (d : Past) → k < length past → holds_epoch epoch (get_or past k d) ≡ false) → map (raised enough by_place (epoch ∷ [])) past ≡ past
  none_raised past others =
      map-fixes raise past (λ k d below. kept (get_or past k d) (λ quiet able. others k d below))

  -- r is the interval that holds the epoch
  module _ (past : List Past) (place : ℕ) (r : Past) (below : place < length past) (is : r ≡ get_or past place r) (others : (k : ℕ) (d : Past) → k < length past → (k ≡ place → ⊥) → holds_epoch epoch (get_or past k d) ≡ false) where
    at_place : (k : ℕ) (d : Past) → k ≡ place → get_or past k d ≡ r
    at_place k d here = ap (λ (n : ℕ). get_or past n d) here ∙ get_or_default past place d r below ∙ sym is

    pub still_raised : (r.rw ≡ false → can_write enough by_place r.members ≡ true → holds_epoch epoch r ≡ false) → map (raised enough by_place (epoch ∷ [])) past ≡ past
    still_raised unless =
        map-fixes raise past (λ k d within. elim (cases_Bool (nat_eq k place)) [
          | inl same ↦ let at = at_place k d (eqb-true k place same) in ap raise at ∙ kept r unless ∙ sym at
          | inr other ↦ kept (get_or past k d) (λ quiet able. others k d within (λ here. true≢false (sym (eq-eqb k place here) ∙ other)))
        ])

    pub one_raised : can_write enough by_place r.members ≡ true → ((d : Past) → holds_epoch epoch (get_or past place d) ≡ true) → map (raised enough by_place (epoch ∷ [])) past ≡ raised_at place past
    one_raised able here =
        map-raises raise past place below
        (λ k d within other. kept (get_or past k d) (λ quiet can. others k d within other))
        (λ d. rises (get_or past place d) (ap (λ (p : Past). can_write enough by_place p.members) (at_place place d refl) ∙ able) (here d))

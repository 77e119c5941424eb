-- A walk over sets of devices, by their size and from the first device to the last, and what it has listed.
use Rattle.std.proofs.Common.{◌≡◌, ℕ, zero, suc, ◌+◌, ◌-◌, ◌<◌, ◌≤◌, nat_lt, List, [], ◌∷◌, ◌++◌, Bool, true, false, length, map, append-nil, append_assoc, add-one, zero-add, suc-add, refl, ap, sym, ◌∙◌, subst, inl, inr, arith}
use Rattle.std.specs.List.{filter, flat_map, list_any, range_with_len}
use Rattle.std.proofs.lemmas.Bool.{cases_Bool, true≢false}
use Rattle.std.proofs.lemmas.Bool.Decides.{nat_tests}
use Rattle.std.proofs.Math.Bool.{and-false}
use Rattle.std.proofs.lemmas.List.{length-append, map-append, map-id}
use Rattle.std.proofs.lemmas.List.Elements.{filter-append}
use Rattle.pgp_lists.proofs.Lists.{flat_map-push}
use Rattle.pgp_lists.proofs.Ranges.{range_with_len-suc}
use Rattle.pgp_lists.proofs.Members.{contains-append, map-contains, contains-any}
use Rattle.pgp_reasons.specs.kept.Looks.{looks_below, most_looks, HasStopped}
use Rattle.pgp_reasons.specs.Smallest.{sets_of, each_but_one, is_smallest, smallest, smallest_with, few_devices, most_sets, AreFirstOf, AreMany, AreSome, IsSpread}
use Rattle.pgp_reasons.proofs.LookLemmas.{few-looks, stopped-more, stopped-same}
use Rattle.pgp_reasons.proofs.SetLemmas.{too_few, set-part, first-of, each-append, filter-none, append-part, IsMonotone, fewer-short}

-- ---- the smallest of the sets with the chosen devices

module _ (enough : List ℕ → Bool) (monotone : IsMonotone enough) where
  -- where all of them aren't enough, none is
  pub none-short : (chosen rest : List ℕ) (n : ℕ) → enough (chosen ++ rest) ≡ false → smallest_with enough chosen n rest ≡ []
  none-short chosen rest n short = filter-none (is_smallest enough) (map (λ set. chosen ++ set) (sets_of n rest)) (λ set in'.
      let found = map-contains (λ set. chosen ++ set) (sets_of n rest) set in' in
      let few : enough (chosen ++ found.0) ≡ false = fewer-short enough monotone (chosen ++ found.0) (chosen ++ rest) (append-part chosen found.0 rest (set-part n rest found.0 found.1.0)) short in
      ap (is_smallest enough) (sym found.1.1) ∙ rw few refl)

  -- where the chosen ones are enough, none with others is one of the smallest
  pub none-past : (chosen rest : List ℕ) (n : ℕ) → 0 < n → enough chosen ≡ true → smallest_with enough chosen n rest ≡ []
  none-past chosen rest zero more is = absurd (omega arith)
  none-past chosen rest (suc n) more is = filter-none (is_smallest enough) (map (λ set. chosen ++ set) (sets_of (suc n) rest)) (λ set in'.
      let found = map-contains (λ set. chosen ++ set) (sets_of (suc n) rest) set in' in
      let first = first-of n rest found.0 found.1.0 in
      let whole : chosen ++ first.0 ∷ first.1.0 ≡ set = ap (λ s. chosen ++ s) (sym first.1.1) ∙ found.1.1 in
      let part : enough (chosen ++ first.1.0) ≡ true = monotone chosen (chosen ++ first.1.0) (λ o there. contains-append chosen first.1.0 o (inl there)) is in
      let some : list_any enough (each_but_one (chosen ++ first.0 ∷ first.1.0)) ≡ true =
      contains-any enough (each_but_one (chosen ++ first.0 ∷ first.1.0)) (chosen ++ first.1.0) (each-append chosen first.0 first.1.0) part in
      ap (is_smallest enough) (sym whole) ∙ rw some (and-false (enough (chosen ++ first.0 ∷ first.1.0))))

-- ---- with the first of the rest, and without it

map-chosen : (chosen : List ℕ) (osd : ℕ) (sets : List (List ℕ)) → map (λ set. chosen ++ set) (map (λ set. osd ∷ set) sets) ≡ map (λ set. (chosen ++ osd ∷ []) ++ set) sets
map-chosen chosen osd [] = refl
map-chosen chosen osd (set ∷ sets) = λ i. sym (append_assoc chosen (osd ∷ []) set) i ∷ map-chosen chosen osd sets i

pub with-first : (enough : List ℕ → Bool) (chosen : List ℕ) (n osd : ℕ) (osds : List ℕ) → 0 < n → smallest_with enough chosen n (osd ∷ osds)
    ≡ smallest_with enough (chosen ++ osd ∷ []) (n - 1) osds ++ smallest_with enough chosen n osds
with-first enough chosen zero osd osds some = absurd (omega arith)
with-first enough chosen (suc n) osd osds some =
    let less : n ≡ suc n - 1 = omega arith in
    ap (filter (is_smallest enough)) (map-append (λ set. chosen ++ set) (map (λ set. osd ∷ set) (sets_of n osds)) (sets_of (suc n) osds))
    ∙ filter-append (is_smallest enough) (map (λ set. chosen ++ set) (map (λ set. osd ∷ set) (sets_of n osds))) (map (λ set. chosen ++ set) (sets_of (suc n) osds))
    ∙ ap (λ (sets : List (List ℕ)). filter (is_smallest enough) sets ++ smallest_with enough chosen (suc n) osds) (map-chosen chosen osd (sets_of n osds))
    ∙ ap (λ m. smallest_with enough (chosen ++ osd ∷ []) m osds ++ smallest_with enough chosen (suc n) osds) less

pub none-too_few : (enough : List ℕ → Bool) (chosen : List ℕ) (n : ℕ) (rest : List ℕ) → length rest < n → smallest_with enough chosen n rest ≡ []
none-too_few enough chosen n rest few = ap (λ sets. filter (is_smallest enough) (map (λ set. chosen ++ set) sets)) (too_few n rest few)

-- ---- what a walk has listed

-- nothing more was to be listed
pub first-all : (whole : Bool) (all : List (List ℕ)) → AreFirstOf whole all all
first-all whole all = record { others = []; are = sym (append-nil all); none_other = λ _. refl }

-- the walk stopped
pub first-stopped : (all more listed : List (List ℕ)) {whole : Bool} → AreFirstOf whole all listed → AreFirstOf false (all ++ more) listed
first-stopped all more listed is =
    record {
      others = is.others ++ more;
      are = ap (λ l. l ++ more) is.are ∙ append_assoc listed is.others more;
      none_other = λ no. absurd (true≢false (sym no));
    }

-- the walk went on
pub first-then : (whole : Bool) (old here more between listed : List (List ℕ)) → AreFirstOf true (old ++ here) between → AreFirstOf whole (between ++ more) listed → AreFirstOf whole (old ++ (here ++ more)) listed
first-then whole old here more between listed first then' =
    let all : old ++ here ≡ between = first.are ∙ ap (λ l. between ++ l) (first.none_other refl) ∙ append-nil between in
    record {
      others = then'.others;
      are = sym (append_assoc old here more) ∙ ap (λ l. l ++ more) all ∙ then'.are;
      none_other = then'.none_other;
    }

-- nothing was to be listed
pub first-none : (old here listed : List (List ℕ)) → here ≡ [] → listed ≡ old → AreFirstOf true (old ++ here) listed
first-none old here listed none same =
    record { others = []; are = ap (λ l. old ++ l) none ∙ append-nil old ∙ sym same ∙ sym (append-nil listed); none_other = λ _. refl }

-- a walk through the sets with the first of the rest, and then those without it
module _ (enough : List ℕ → Bool) (chosen pushed popped : List ℕ) (n osd : ℕ) (rest others : List ℕ) (old between after : List (List ℕ)) (whole : Bool)
    (some : 0 < n) (cut : rest ≡ osd ∷ others) (push : pushed ≡ chosen ++ osd ∷ []) (pop : popped ≡ chosen) (still : after ≡ between)
    (first : AreFirstOf whole (old ++ smallest_with enough pushed (n - 1) others) between) where
  with-cut : smallest_with enough pushed (n - 1) others ++ smallest_with enough chosen n others ≡ smallest_with enough chosen n rest
  with-cut = rw (push, cut) (sym (with-first enough chosen n osd others some))

  pub on-stopped : AreFirstOf false (old ++ smallest_with enough chosen n rest) after
  on-stopped =
      let stopped = first-stopped (old ++ smallest_with enough pushed (n - 1) others) (smallest_with enough chosen n others) between first in
      rw still (subst (λ (l : List (List ℕ)). AreFirstOf false l between) (append_assoc old _ _ ∙ ap (λ l. old ++ l) with-cut) stopped)

  -- why the walk stopped, in its first part or in its second
  pub stop-first : (looks : ℕ) → HasStopped looks (old ++ smallest_with enough pushed (n - 1) others) between → HasStopped looks (old ++ smallest_with enough chosen n rest) after
  stop-first looks stopped =
      stopped-same looks _ _ between after (append_assoc old _ _ ∙ ap (λ l. old ++ l) with-cut) (sym still)
      (stopped-more looks (old ++ smallest_with enough pushed (n - 1) others) (smallest_with enough chosen n others) between stopped)

  pub stop-then : (looks : ℕ) (listed : List (List ℕ)) → whole ≡ true → HasStopped looks (after ++ smallest_with enough popped n others) listed → HasStopped looks (old ++ smallest_with enough chosen n rest) listed
  stop-then looks listed all stopped =
      let here = smallest_with enough pushed (n - 1) others in
      let went : old ++ here ≡ between = first.are ∙ ap (λ l. between ++ l) (first.none_other all) ∙ append-nil between in
      stopped-same looks _ _ listed listed
      ((λ i. still i ++ smallest_with enough (pop i) n others)
      ∙ ap (λ l. l ++ smallest_with enough chosen n others) (sym went)
      ∙ append_assoc old here (smallest_with enough chosen n others)
      ∙ ap (λ l. old ++ l) with-cut)
      refl stopped

  pub on-then : (w : Bool) (listed : List (List ℕ)) → whole ≡ true → AreFirstOf w (after ++ smallest_with enough popped n others) listed → AreFirstOf w (old ++ smallest_with enough chosen n rest) listed
  on-then w listed all then' =
      let next : AreFirstOf w (between ++ smallest_with enough chosen n others) listed =
      subst (λ (l : List (List ℕ)). AreFirstOf w l listed) (λ i. still i ++ smallest_with enough (pop i) n others) then' in
      let went : AreFirstOf true (old ++ smallest_with enough pushed (n - 1) others) between = subst (λ (b : Bool). AreFirstOf b (old ++ smallest_with enough pushed (n - 1) others) between) all first in
      subst (λ (l : List (List ℕ)). AreFirstOf w (old ++ l) listed) with-cut
      (first-then w old (smallest_with enough pushed (n - 1) others) (smallest_with enough chosen n others) between listed went next)

  pub on-short : IsMonotone enough → whole ≡ true → enough (popped ++ others) ≡ false → AreFirstOf true (old ++ smallest_with enough chosen n rest) after
  on-short monotone all short =
      on-then true after all (first-none after (smallest_with enough popped n others) after (none-short enough monotone popped others n short) refl)

-- ---- one size after another

-- the smallest sets of fewer than this many devices
abbrev pub smallest_below : (List ℕ → Bool) → List ℕ → ℕ → List (List ℕ)
smallest_below enough osds n = filter (is_smallest enough) (flat_map (λ k. sets_of k osds) (range_with_len 0 n))

one-more : (enough : List ℕ → Bool) (osds : List ℕ) (n : ℕ) → smallest_below enough osds (suc n) ≡ smallest_below enough osds n ++ filter (is_smallest enough) (sets_of n osds)
one-more enough osds n =
    ap (λ sizes. filter (is_smallest enough) (flat_map (λ k. sets_of k osds) sizes)) (range_with_len-suc 0 n)
    ∙ ap (filter (is_smallest enough)) (flat_map-push (λ k. sets_of k osds) (range_with_len 0 n) (0 + n))
    ∙ filter-append (is_smallest enough) (flat_map (λ k. sets_of k osds) (range_with_len 0 n)) (sets_of (0 + n) osds)
    ∙ ap (λ k. smallest_below enough osds n ++ filter (is_smallest enough) (sets_of k osds)) (zero-add n)

-- the next size, with nothing chosen yet
size-more : (enough : List ℕ → Bool) (osds : List ℕ) (n : ℕ) → smallest_below enough osds (n + 1) ≡ smallest_below enough osds n ++ smallest_with enough [] n osds
size-more enough osds n =
    ap (smallest_below enough osds) (add-one n) ∙ one-more enough osds n
    ∙ ap (λ sets. smallest_below enough osds n ++ filter (is_smallest enough) sets) (sym (map-id (sets_of n osds)))

-- those of smaller sizes come first
below-first : (enough : List ℕ → Bool) (osds : List ℕ) (n more : ℕ) → (others : List (List ℕ)) × (smallest_below enough osds (more + n) ≡ smallest_below enough osds n ++ others)
below-first enough osds n zero = ([], ap (smallest_below enough osds) (zero-add n) ∙ sym (append-nil (smallest_below enough osds n)))
below-first enough osds n (suc more) =
    let fewer = below-first enough osds n more in (
      fewer.0 ++ filter (is_smallest enough) (sets_of (more + n) osds),
      ap (smallest_below enough osds) (suc-add more n) ∙ one-more enough osds (more + n)
          ∙ ap (λ l. l ++ filter (is_smallest enough) (sets_of (more + n) osds)) fewer.1
          ∙ append_assoc (smallest_below enough osds n) fewer.0 (filter (is_smallest enough) (sets_of (more + n) osds)),
    )

-- the walk of one size begins where that of smaller ones ended
pub size-begins : (enough : List ℕ → Bool) (chosen osds : List ℕ) (n : ℕ) (found : List (List ℕ)) → found ≡ smallest_below enough osds n → chosen ≡ [] → found ++ smallest_with enough chosen n osds ≡ smallest_below enough osds (n + 1)
size-begins enough chosen osds n found is none = (λ i. is i ++ smallest_with enough (none i) n osds) ∙ sym (size-more enough osds n)

-- ---- what is said of a set

pub said-is : (enough : List ℕ → Bool) (shown osds : List ℕ) (said b : Bool) → shown ≡ osds → said ≡ enough shown → said ≡ b → enough osds ≡ b
said-is enough shown osds said b same is said-b = ap enough (sym same) ∙ sym is ∙ said-b

-- ---- what is told in the end

pub listed-all : (enough : List ℕ → Bool) (osds : List ℕ) (listed : List (List ℕ)) → listed ≡ smallest enough osds → length listed ≤ most_sets → AreSome enough osds listed false
listed-all enough osds listed same few =
    record { each = λ _. same; bound = few; spread = λ no. absurd (true≢false (sym no)); word = λ no. absurd (true≢false (sym no)) }

pub listed-some : (enough : List ℕ → Bool) (osds : List ℕ) (listed : List (List ℕ)) → IsSpread enough osds listed → AreMany osds (smallest enough osds) → AreSome enough osds listed true
listed-some enough osds listed is many =
    record { each = λ no. absurd (true≢false no); bound = is.bound; spread = λ _. is; word = λ _. many }

-- a walk of one size that went through all
pub listed-more : {whole : Bool} (old here all listed : List (List ℕ)) → whole ≡ true → old ++ here ≡ all → AreFirstOf whole (old ++ here) listed → listed ≡ all
listed-more old here all listed went is first = sym (append-nil listed) ∙ ap (λ l. listed ++ l) (sym (first.none_other went)) ∙ sym first.are ∙ is

-- why a walk stopped at this size
pub many-at : (enough : List ℕ → Bool) (osds : List ℕ) (n looks : ℕ) (all listed : List (List ℕ)) → n < length osds + 1 → all ≡ smallest_below enough osds (n + 1) → most_looks ≤ looks + looks_below (length osds) (n + 1)
    → HasStopped looks all listed → AreMany osds (smallest enough osds)
many-at enough osds n looks all listed below is counted (inl full) =
    let rest = below-first enough osds (n + 1) (length osds - n) in
    let size : length osds - n + (n + 1) ≡ length osds + 1 = omega arith in
    let whole : smallest enough osds ≡ all ++ rest.0 = ap (smallest_below enough osds) (sym size) ∙ rest.1 ∙ ap (λ l. l ++ rest.0) (sym is) in
    inl (omega (arith, full.1, ap length whole, length-append all rest.0))
many-at enough osds n looks all listed below is counted (inr none) = elim (cases_Bool (nat_lt few_devices (length osds))) [
  | inl many ↦ inr (grind (arith, nat_tests))
  | inr few ↦
      let count : length osds ≤ 9 = grind (arith, nat_tests) in
      let looked : looks_below (length osds) (n + 1) < most_looks = few-looks (length osds) (n + 1) count (omega (arith, below)) in
      absurd (omega (arith, counted, none, looked))
]

-- nothing is chosen again after a walk
pub none-again : (after before : List ℕ) → after ≡ before → before ≡ [] → after ≡ []
none-again after before same none = same ∙ none

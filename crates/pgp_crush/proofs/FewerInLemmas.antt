-- A placement stays where fewer devices are in, and each that it has is in still.
use Rattle.std.proofs.Common.{◌≡◌, ◌<◌, ℕ, ◌+◌, zero, suc, ℤ, List, [], ◌∷◌, map, Bool, true, false, not, ◌&&◌, inl, inr, refl, arith, ap, sym, ◌∙◌, subst, Option, Some, None, if◌then◌else◌}
use Rattle.std.specs.List.{Contains, list_any, range_with_len}
use Rattle.std.specs.Option.{option_and_then, option_map_or}
use Rattle.std.proofs.lemmas.Bool.{cases_Bool, cases_lt, true≢false}
use Rattle.std.proofs.lemmas.List.{get_or_past}
use Rattle.std.proofs.lemmas.Option.{none-some}
use Rattle.pgp_lists.proofs.Members.{Contains-here, contains-append, contains-map}
use Rattle.pgp_lists.proofs.Ranges.{range-contains}
use Rattle.pgp_crush.specs.declared.rule.Rule.{Rule}
use Rattle.pgp_crush.specs.declared.descent.Descent.{Descent}
use Rattle.pgp_crush.specs.declared.descent.Descent.TheVariants as descent_is
use Rattle.pgp_crush.specs.declared.descent.Rank.{Rank}
use Rattle.pgp_crush.specs.declared.candidate.Pick.{Pick}
use Rattle.pgp_crush.specs.declared.candidate.Candidate.{Candidate}
use Rattle.pgp_crush.specs.declared.candidate.Candidate.TheVariants.{Early, Unfit, Fit}
use Rattle.pgp_crush.specs.Bucket.{Bucket, root_of}
use Rattle.pgp_crush.specs.Candidate.{Input, candidate, candidate_at, fit_with, input_of, leaf_of}
use Rattle.pgp_crush.specs.Cells.{indep}
use Rattle.pgp_crush.specs.Descent.{descent}
use Rattle.pgp_crush.specs.FirstN.{first_n, first_picks, is_failure, is_good_try, pick_of, taken_by, try_of}
use Rattle.pgp_crush.specs.Indep.{IsIndep, IsTable, cell, has_before, has_item, leaf_in, place_at, round_of, settled_by, settles, stands_before}
use Rattle.pgp_crush.specs.Least.{least_below, least_from}
use Rattle.pgp_crush.specs.Out.{is_in}
use Rattle.pgp_crush.specs.Picks.{Picks, with_pick}
use Rattle.pgp_crush.specs.Placement.{placement}
use Rattle.pgp_crush.proofs.IndepLemmas.{indep-by_table, indep-is}
use Rattle.pgp_crush.proofs.LeastLemmas.{least_from-found}

-- a search that fails where another does, and passes what that one finds, finds the same
least_from-kept : (test other : ℕ → Bool) (k n : ℕ) → ((j : ℕ) → test j ≡ false → other j ≡ false) → ((j : ℕ) → least_from test k n ≡ Some j → other j ≡ true)
    → least_from other k n ≡ least_from test k n
unfolding least_from
least_from-kept test other k zero fails passes = refl
least_from-kept test other k (suc n) fails passes = elim (cases_Bool (test k)) [
  | inl here ↦ rw (here, passes k (rw here refl)) refl
  | inr on ↦ rw (on, fails k on) (least_from-kept test other (suc k) n fails (λ j is. passes j (rw on is)))
]

-- what a try comes to, where only devices that pass the test are in
abbrev narrowed : (ℕ → Bool) → Candidate → Candidate
narrowed test Early = Early
narrowed test Unfit = Unfit
narrowed test (Fit pick) = if test pick.leaf then Fit pick else Unfit

-- fewer devices are in: each that passes the test is in by the input
module _ (i : Input) (test : ℕ → Bool) (fewer : (osd : ℕ) → test osd ≡ true → i.is_in osd ≡ true) where
  abbrev few : Input
  few = record i { is_in = test }

  -- ---- one try

  fit-narrowed : (item : ℤ) (leaf : Option ℕ) → fit_with few item leaf ≡ narrowed test (fit_with i item leaf)
  fit-narrowed item None = refl
  fit-narrowed item (Some leaf) = elim (cases_Bool (i.is_in leaf)) [
    | inl here ↦ rw here refl
    | inr out ↦ elim (cases_Bool (test leaf)) [
      | inl passes ↦ absurd (true≢false (sym (fewer leaf passes) ∙ out))
      | inr fails ↦ rw (out, fails) refl
    ]
  ]

  at-narrowed : (more : ℕ) (d : Descent) → candidate_at few more d ≡ narrowed test (candidate_at i more d)
  at-narrowed more descent_is.Early = refl
  at-narrowed more descent_is.Empty = refl
  at-narrowed more (descent_is.Found s) = fit-narrowed s.item (leaf_of i.tree i.x (s.r + more) s.item)

  try-narrowed : (rank : Rank) (more : ℕ) → candidate few rank more ≡ narrowed test (candidate i rank more)
  unfolding candidate
  try-narrowed rank more = at-narrowed more (descent i.tree i.x rank i.kind (root_of i.tree))

  -- a device that a try came to is in
  fit-in : (item : ℤ) (leaf : Option ℕ) (pick : Pick) → fit_with i item leaf ≡ Fit pick → i.is_in pick.leaf ≡ true
  fit-in item None pick is = cc
  fit-in item (Some leaf) pick is = elim (cases_Bool (i.is_in leaf)) [
    | inl here ↦ (let same : Fit (record { item = item; leaf = leaf }) ≡ Fit pick = rw here at is in cc)
    | inr out ↦ (let same : Unfit ≡ Fit pick = rw out at is in cc)
  ]

  at-in : (more : ℕ) (d : Descent) (pick : Pick) → candidate_at i more d ≡ Fit pick → i.is_in pick.leaf ≡ true
  at-in more descent_is.Early pick is = cc
  at-in more descent_is.Empty pick is = cc
  at-in more (descent_is.Found s) pick is = fit-in s.item (leaf_of i.tree i.x (s.r + more) s.item) pick is

  try-in : (rank : Rank) (more : ℕ) (pick : Pick) → candidate i rank more ≡ Fit pick → i.is_in pick.leaf ≡ true
  unfolding candidate
  try-in rank more pick is = at-in more (descent i.tree i.x rank i.kind (root_of i.tree)) pick is

  -- what a try comes to stays, where its device passes the test
  still : (c : Candidate) → ((pick : Pick) → c ≡ Fit pick → test pick.leaf ≡ true) → narrowed test c ≡ c
  still Early passes = refl
  still Unfit passes = refl
  still (Fit pick) passes = rw (passes pick refl) refl

  -- ---- first-n

  failure-stays : (taken : Picks) (c : Candidate) → not (is_failure taken c) ≡ false → not (is_failure taken (narrowed test c)) ≡ false
  failure-stays taken Early fails = fails
  failure-stays taken Unfit fails = fails
  failure-stays taken (Fit pick) fails = elim (cases_Bool (test pick.leaf)) [ inl passes ↦ rw passes fails | inr out ↦ rw out refl ]

  pick-stays : (taken : Picks) (rep : ℕ) → ((pick : Pick) → pick_of i taken rep ≡ Some pick → i.is_in pick.leaf ≡ true → test pick.leaf ≡ true) → pick_of few taken rep ≡ pick_of i taken rep
  unfolding pick_of
  pick-stays taken rep holds =
      ap (option_and_then (λ f. taken_by (try_of few rep f))) found ∙ taken-same (least_below (is_good_try i taken rep) 51) refl
    where
      same : (f : ℕ) → least_below (is_good_try i taken rep) 51 ≡ Some f → try_of few rep f ≡ try_of i rep f
      same f is =
          try-narrowed _ 0
          ∙ still (try_of i rep f) (λ pick c. holds pick (ap (option_and_then (λ f. taken_by (try_of i rep f))) is ∙ ap taken_by c) (try-in _ 0 pick c))

      found : least_below (is_good_try few taken rep) 51 ≡ least_below (is_good_try i taken rep) 51
      found =
          least_from-kept (is_good_try i taken rep) (is_good_try few taken rep) 0 51
          (λ f fails. ap (λ c. not (is_failure taken c)) (try-narrowed _ 0) ∙ failure-stays taken (try_of i rep f) fails)
          (λ f is. ap (λ c. not (is_failure taken c)) (same f is) ∙ (least_from-found (is_good_try i taken rep) 0 51 f is).0)

      taken-same : (o : Option ℕ) → least_below (is_good_try i taken rep) 51 ≡ o → option_and_then (λ f. taken_by (try_of few rep f)) o ≡ option_and_then (λ f. taken_by (try_of i rep f)) o
      taken-same None is = refl
      taken-same (Some f) is = ap taken_by (same f is)

  with_pick-leaf : (taken : Picks) (o : Option Pick) (pick : Pick) → o ≡ Some pick → Contains (with_pick taken o).leaves (Some pick.leaf)
  with_pick-leaf taken None pick is = cc
  with_pick-leaf taken (Some other) pick is =
      let same : other ≡ pick = cc in
      contains-append taken.leaves (Some other.leaf ∷ []) (Some pick.leaf) (inr (subst (λ (p : Pick). Contains (Some other.leaf ∷ []) (Some p.leaf)) same (Contains-here (Some other.leaf) [])))

  with_pick-still : (taken : Picks) (o : Option Pick) (place : Option ℕ) → Contains taken.leaves place → Contains (with_pick taken o).leaves place
  with_pick-still taken None place there = there
  with_pick-still taken (Some pick) place there = contains-append taken.leaves (Some pick.leaf ∷ []) place (inl there)

  picks-stay : (n : ℕ) → ((osd : ℕ) → Contains (first_picks i n).leaves (Some osd) → i.is_in osd ≡ true → test osd ≡ true) → first_picks few n ≡ first_picks i n
  unfolding first_picks
  picks-stay zero holds = refl
  picks-stay (suc rep) holds =
      let taken = first_picks i rep in
      let before = picks-stay rep (λ osd there. holds osd (with_pick-still taken (pick_of i taken rep) (Some osd) there)) in
      ap (λ (taken : Picks). with_pick taken (pick_of few taken rep)) before
      ∙ ap (with_pick taken) (pick-stays taken rep (λ pick is. holds pick.leaf (with_pick-leaf taken (pick_of i taken rep) pick is)))

  -- ---- indep

  module _ (n : ℕ) (table : List (Option ℕ)) (is : IsTable i n table) (holds : (osd : ℕ) → Contains (map (place_at i n table) (range_with_len 0 n)) (Some osd) → i.is_in osd ≡ true → test osd ≡ true) where
    within : (q own : ℕ) → round_of table q ≡ Some own → q < n
    within q own at = elim (cases_lt q n) [
      | inl below ↦ below
      | inr past ↦ absurd (none-some own (sym (get_or_past table q None (omega (arith, past, is.size))) ∙ at))
    ]

    -- the cell that ended the search of a position stays
    own-stays : (q own : ℕ) → round_of table q ≡ Some own → cell few n own q ≡ cell i n own q
    own-stays q own at =
        try-narrowed _ q
        ∙ still (cell i n own q) (λ pick c. holds pick.leaf
        (subst (Contains (map (place_at i n table) (range_with_len 0 n))) (ap (option_and_then (λ round. leaf_in (cell i n round q))) at ∙ ap leaf_in c) (contains-map (place_at i n table) (range_with_len 0 n) q (range-contains n q (within q own at))))
        (try-in _ q pick c))

    before-stays : (position round : ℕ) (item : ℤ) (q : ℕ) → has_before few n table round position item q ≡ has_before i n table round position item q
    before-stays position round item q = by_round (round_of table q) refl
      where
        by_round : (o : Option ℕ) → round_of table q ≡ o
            → option_map_or (λ own. stands_before own q round position && has_item item (cell few n own q)) o false ≡ option_map_or (λ own. stands_before own q round position && has_item item (cell i n own q)) o false
        by_round None at = refl
        by_round (Some own) at = ap (λ c. stands_before own q round position && has_item item c) (own-stays q own at)

    settled-stays : (position round : ℕ) (c : Candidate) → settled_by few n table position round c ≡ settled_by i n table position round c
    settled-stays position round Early = refl
    settled-stays position round Unfit = refl
    settled-stays position round (Fit pick) = λ k. not (list_any (λ q. before-stays position round pick.item q k) (range_with_len 0 n))

    open-stays : (position round : ℕ) (c : Candidate) → settled_by i n table position round c ≡ false → settled_by i n table position round (narrowed test c) ≡ false
    open-stays position round Early none = none
    open-stays position round Unfit none = none
    open-stays position round (Fit pick) none = elim (cases_Bool (test pick.leaf)) [ inl passes ↦ rw passes none | inr out ↦ rw out refl ]

    table-stays : IsTable few n table
    table-stays = record {
      size = is.size;
      least = λ position within.
          let at = is.least position within in
          at ∙ sym (least_from-kept (settles i n table position) (settles few n table position) 0 51
          (λ round none. settled-stays position round (cell few n round position) ∙ ap (settled_by i n table position round) (try-narrowed _ position) ∙ open-stays position round (cell i n round position) none)
          (λ round found. settled-stays position round (cell few n round position) ∙ ap (settled_by i n table position round) (own-stays position round (at ∙ found))
          ∙ (least_from-found (settles i n table position) 0 51 round found).0));
    }

    place-stays : (q : ℕ) → place_at few n table q ≡ place_at i n table q
    place-stays q = by_round (round_of table q) refl
      where
        by_round : (o : Option ℕ) → round_of table q ≡ o → option_and_then (λ round. leaf_in (cell few n round q)) o ≡ option_and_then (λ round. leaf_in (cell i n round q)) o
        by_round None at = refl
        by_round (Some own) at = ap leaf_in (own-stays q own at)

    places-stay : indep few n ≡ map (place_at i n table) (range_with_len 0 n)
    places-stay = indep-by_table few n table table-stays ∙ (λ k. map (λ q. place-stays q k) (range_with_len 0 n))

  indep-stays : (n : ℕ) → ((osd : ℕ) → Contains (indep i n) (Some osd) → i.is_in osd ≡ true → test osd ≡ true) → indep few n ≡ indep i n
  indep-stays n holds =
      let made : IsIndep i n (indep i n) = indep-is i n in
      places-stay n made.table made.is_table (λ osd there. holds osd (subst (λ (l : List (Option ℕ)). Contains l (Some osd)) (sym made.places_are) there)) ∙ sym made.places_are

  -- ---- both

  abbrev places : Bool → ℕ → Input → List (Option ℕ)
  places by_place n input = if by_place then indep input n else first_n input n

  pub places_of_fewer : (by_place : Bool) (n : ℕ) → ((osd : ℕ) → Contains (places by_place n i) (Some osd) → i.is_in osd ≡ true → test osd ≡ true) → places by_place n few ≡ places by_place n i
  places_of_fewer true n holds = indep-stays n holds
  places_of_fewer false n holds = ap (λ (p : Picks). p.leaves) (picks-stay n holds)

pub placement_of_fewer : (tree : Option (List Bucket)) (rule : Rule) (weights others : List ℕ) (x n : ℕ) → ((osd : ℕ) → is_in others x osd ≡ true → is_in weights x osd ≡ true)
    → ((osd : ℕ) → Contains (placement tree rule weights x n) (Some osd) → is_in weights x osd ≡ true → is_in others x osd ≡ true)
    → placement tree rule others x n ≡ placement tree rule weights x n
placement_of_fewer None rule weights others x n fewer holds = refl
placement_of_fewer (Some tree) rule weights others x n fewer holds = places_of_fewer (input_of tree weights x rule.leaf) (is_in others x) fewer rule.indep n holds

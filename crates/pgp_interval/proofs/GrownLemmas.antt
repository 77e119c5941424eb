-- What a later epoch does to the intervals: the epochs that it passes over are steps to the same membership.
use Rattle.std.proofs.Common.{◌≡◌, ◌≢◌, ℕ, zero, suc, ◌+◌, List, [], ◌∷◌, ◌++◌, Bool, map, refl, ap, sym, ◌∙◌, arith, append_assoc}
use Rattle.std.specs.Prelude.{replicate}
use Rattle.std.proofs.lemmas.List.{length-append, length-replicate}
use Rattle.pgp_ids.specs.declared.history.EpochState.{EpochState}
use Rattle.pgp_ids.specs.declared.history.PrimaryFacts.{PrimaryFacts}
use Rattle.pgp_ids.specs.declared.membership.Membership.{Membership}
use Rattle.pgp_interval.specs.History.{History, grown, stayed, stepped, last_place}
use Rattle.pgp_interval.specs.Runs.{past_intervals, current_first, ending_at}
use Rattle.pgp_interval.proofs.StepLemmas.{past_intervals-continues, current_first-continues, past_intervals-ends, current_first-ends}
use Rattle.std.proofs.lemmas.List.{length_push}

module _ {C : Type 0} (h : History C) (members : Membership) (facts : PrimaryFacts) where
  -- one epoch more that is passed over is a step to the same membership first
  pub grown-more : (passed : ℕ) → grown h (suc passed) members facts ≡ grown (stepped h h.current facts) passed members facts
  grown-more passed =
      let ended : EpochState = record { members = h.current; facts = facts } in
      ap (λ (l : List EpochState). record h { lived = l; current = members })
      (sym (append_assoc h.lived (ended ∷ []) (ended ∷ replicate passed ended)))

  pub last_place-grown : (passed : ℕ) → last_place (grown h passed members facts) ≡ last_place h + passed + 1
  last_place-grown passed =
      let ended : EpochState = record { members = h.current; facts = facts } in
      omega (arith, length-append h.lived (ended ∷ replicate passed ended), length-replicate passed ended)

-- one that keeps the membership is as many epochs more of it
pub grown-stays : {C : Type 0} (h : History C) (passed : ℕ) (facts : PrimaryFacts) → grown h passed h.current facts ≡ stayed h (facts ∷ replicate passed facts)
grown-stays h passed facts =
    let lasting : PrimaryFacts → EpochState = λ f. record { members = h.current; facts = f } in
    ap (λ (l : List EpochState). record h { lived = h.lived ++ lasting facts ∷ l }) (same passed)
  where
    same : (n : ℕ) → replicate n (record { members = h.current; facts = facts }) ≡ map (λ (f : PrimaryFacts). let s : EpochState = record { members = h.current; facts = f } in s) (replicate n facts)
    same zero = refl
    same (suc n) = ap (λ (l : List EpochState). record { members = h.current; facts = facts } ∷ l) (same n)

module _ {C : Type 0} (enough : C → List ℕ → Bool) (by_place : C → Bool) (cleans : List ℕ) where
  pub past_intervals-goes_on : (h : History C) (passed : ℕ) (facts : PrimaryFacts) → past_intervals enough by_place cleans (grown h passed h.current facts) ≡ past_intervals enough by_place cleans h
  past_intervals-goes_on h zero facts = past_intervals-continues enough by_place cleans h facts
  past_intervals-goes_on h (suc passed) facts =
      ap (past_intervals enough by_place cleans) (grown-more h h.current facts passed)
      ∙ past_intervals-goes_on (stepped h h.current facts) passed facts ∙ past_intervals-continues enough by_place cleans h facts

  pub past_intervals-over : (h : History C) (passed : ℕ) (members : Membership) (facts : PrimaryFacts) → members ≢ h.current
      → past_intervals enough by_place cleans (grown h passed members facts) ≡ past_intervals enough by_place cleans h ++ ending_at enough by_place cleans h (h.first + last_place h + passed) facts ∷ []
  past_intervals-over h zero members facts differ =
      past_intervals-ends enough by_place cleans h members facts differ
      ∙ ap (λ (last : ℕ). past_intervals enough by_place cleans h ++ ending_at enough by_place cleans h last facts ∷ []) (omega arith)
  past_intervals-over h (suc passed) members facts differ =
      let next : History C = stepped h h.current facts in
      ap (past_intervals enough by_place cleans) (grown-more h members facts passed)
      ∙ past_intervals-over next passed members facts differ
      ∙ grind (arith, past_intervals-continues enough by_place cleans h facts, current_first-continues h facts, length_push h.lived (record { members = h.current; facts = facts }))

pub current_first-goes_on : {C : Type 0} (h : History C) (passed : ℕ) (facts : PrimaryFacts) → current_first (grown h passed h.current facts) ≡ current_first h
current_first-goes_on h zero facts = current_first-continues h facts
current_first-goes_on h (suc passed) facts =
    ap current_first (grown-more h h.current facts passed) ∙ current_first-goes_on (stepped h h.current facts) passed facts ∙ current_first-continues h facts

pub current_first-over : {C : Type 0} (h : History C) (passed : ℕ) (members : Membership) (facts : PrimaryFacts) → members ≢ h.current → current_first (grown h passed members facts) ≡ h.first + last_place h + passed + 1
current_first-over h zero members facts differ = current_first-ends h members facts differ ∙ omega arith
current_first-over h (suc passed) members facts differ =
    ap current_first (grown-more h members facts passed) ∙ current_first-over (stepped h h.current facts) passed members facts differ
    ∙ omega (arith, length_push h.lived (record { members = h.current; facts = facts }))

pub ruleset grown_laws = (past_intervals-goes_on, current_first-goes_on, past_intervals-over, current_first-over)

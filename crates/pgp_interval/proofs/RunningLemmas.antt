-- The running intervals stay those of the history as it grows.
use Rattle.std.proofs.Common.{◌≡◌, ℕ, zero, suc, ◌+◌, ◌-◌, ◌≤◌, List, [], ◌∷◌, ◌++◌, Bool, true, false, All, Contains, length, map, refl, sym, ap₂, ◌∙◌, subst, arith, add-zero, append_assoc, append-nil}
use Rattle.std.proofs.lemmas.Bool.{true≢false}
use Rattle.std.proofs.lemmas.List.{length_push}
use Rattle.std.proofs.lemmas.List.Elements.{All-contains, All-weaker}
use Rattle.pgp_ids.specs.declared.history.EpochState.{EpochState}
use Rattle.pgp_ids.specs.declared.history.PrimaryFacts.{PrimaryFacts}
use Rattle.pgp_ids.specs.declared.membership.Membership.{Membership}
use Rattle.pgp_ids.specs.declared.past.Past.{Past}
use Rattle.pgp_interval.specs.SameMembers.{is_same}
use Rattle.pgp_interval.specs.History.{History, last_place, stepped, stayed, grown}
use Rattle.pgp_interval.specs.Runs.{past_interval, ending_at}
use Rattle.pgp_interval.specs.IntervalsOf.{Running, IsIntervalsOf}
use Rattle.pgp_interval.specs.ReadWrite.{was_clean}
use Rattle.pgp_interval.proofs.GrownLemmas.{grown-more}
use Rattle.pgp_interval.proofs.Same.{is_same-eq, eq-is_same}
use Rattle.pgp_interval.proofs.CleanLemmas.{was_clean-later, was_clean-none}
use Rattle.pgp_interval.proofs.StepLemmas.{past_intervals-continues, current_first-continues, past_intervals-ends, current_first-ends}

within_more : (cleans : List ℕ) (last to : ℕ) → last ≤ to → All (λ clean. clean ≤ last) cleans → All (λ clean. clean ≤ to) cleans
within_more cleans last to later = All-weaker (λ clean. clean ≤ last) (λ clean. clean ≤ to) (λ clean below. omega arith) cleans

module _ {C : Type 0} (enough : C → List ℕ → Bool) (by_place : C → Bool) (cleans : List ℕ) where
  -- the cleans are epochs up to the current one
  none_after : (h : History C) (running : Running C) → IsIntervalsOf enough by_place h cleans running → (clean : ℕ) → Contains cleans clean → clean ≤ running.last
  none_after h running is clean in' =
      let below = All-contains (λ c. c ≤ h.first + last_place h) cleans clean is.within in' in
      omega (arith, is.last_is, below)

  -- a step to the same membership
  goes_on : (h : History C) (running : Running C) → IsIntervalsOf enough by_place h cleans running → (members : Membership) (facts : PrimaryFacts) (epoch : ℕ) → epoch ≡ running.last + 1 → is_same running.current members ≡ true → IsIntervalsOf enough by_place (stepped h members facts) cleans (record running { last = epoch })
  goes_on h running is members facts epoch next same =
      let stays : running.current ≡ members = is_same-eq running.current members same in
      let past = past_intervals-continues enough by_place cleans h facts in
      let first = current_first-continues h facts in
      let last = length_push h.lived (record { members = h.current; facts = facts }) in
      let clean = was_clean-later cleans running.first running.last epoch (none_after h running is) (omega arith) in
      let within : All (λ clean. clean ≤ h.first + last_place (stepped h h.current facts)) cleans = within_more cleans (h.first + last_place h) _ (omega (arith, last)) is.within in
      let now : IsIntervalsOf enough by_place (stepped h h.current facts) cleans (record running { last = epoch }) = record {
        code_is = is.code_is;
        past_are = is.past_are ∙ sym past;
        first_is = is.first_is ∙ sym first;
        last_is = omega (arith, is.last_is, next, last);
        current_is = is.current_is;
        clean_is = is.clean_is ∙ sym clean;
        within = within;
      } in
      subst (λ m. IsIntervalsOf enough by_place (stepped h m facts) cleans (record running { last = epoch })) (sym is.current_is ∙ stays) now

  -- the current interval as a past one, where it ends with these facts
  abbrev ended : Running C → PrimaryFacts → Past
  ended running facts =
      let last : EpochState = record { members = running.current; facts = facts } in
      past_interval (enough running.code) (by_place running.code) cleans running.first running.last last

  ended-is : (h : History C) (running : Running C) → IsIntervalsOf enough by_place h cleans running → (facts : PrimaryFacts) → ended running facts ≡ ending_at enough by_place cleans h (h.first + last_place h) facts
  ended-is h running is facts = rw (is.code_is, is.first_is, is.last_is, is.current_is) refl

  -- a step to another one
  ends : (h : History C) (running : Running C) → IsIntervalsOf enough by_place h cleans running → (members : Membership) (facts : PrimaryFacts) (epoch : ℕ) → epoch ≡ running.last + 1 → is_same running.current members ≡ false → IsIntervalsOf enough by_place (stepped h members facts) cleans (record running { past = running.past ++ ended running facts ∷ []; first = epoch; last = epoch; current = members; clean = false })
  ends h running is members facts epoch next differs =
      let differ = λ (same : members ≡ h.current). true≢false (sym (eq-is_same _ _ (is.current_is ∙ sym same)) ∙ differs) in
      let past = past_intervals-ends enough by_place cleans h members facts differ in
      let first = current_first-ends h members facts differ in
      let last = length_push h.lived (record { members = h.current; facts = facts }) in
      let closed = ended-is h running is facts in
      let clean = was_clean-none cleans epoch epoch (λ clean in'. omega (arith, none_after h running is clean in')) in
      record {
        code_is = is.code_is;
        past_are = ap₂ (λ (ps : List Past) (p : Past). ps ++ p ∷ []) is.past_are closed ∙ sym past;
        first_is = omega (arith, first, is.last_is);
        last_is = omega (arith, last, is.last_is);
        current_is = refl;
        clean_is = sym clean;
        within = within_more cleans (h.first + last_place h) _ (omega (arith, last)) is.within;
      }

  -- the epoch after the current one, where it is passed over
  passes : (h : History C) (running : Running C) → IsIntervalsOf enough by_place h cleans running → (facts : PrimaryFacts) → IsIntervalsOf enough by_place (stepped h h.current facts) cleans (record running { last = running.last + 1 })
  passes h running is facts = goes_on h running is h.current facts (running.last + 1) refl (eq-is_same _ _ is.current_is)

  -- a later epoch of the same membership
  pub stays : (h : History C) (running : Running C) → IsIntervalsOf enough by_place h cleans running → (passed : ℕ) (members : Membership) (facts : PrimaryFacts) (epoch : ℕ) → epoch ≡ running.last + passed + 1 → is_same running.current members ≡ true → IsIntervalsOf enough by_place (grown h passed members facts) cleans (record running { last = epoch })
  stays h running is zero members facts epoch later same = goes_on h running is members facts epoch (omega (arith, later)) same
  stays h running is (suc passed) members facts epoch later same =
      subst (λ (g : History C). IsIntervalsOf enough by_place g cleans (record running { last = epoch })) (sym (grown-more h members facts passed))
      (stays (stepped h h.current facts) (record running { last = running.last + 1 }) (passes h running is facts) passed members facts epoch (omega (arith, later)) same)

  -- a later epoch of another one: the current interval ends just before
  pub is_over : (h : History C) (running : Running C) → IsIntervalsOf enough by_place h cleans running → (passed : ℕ) (members : Membership) (facts : PrimaryFacts) (epoch : ℕ) → epoch ≡ running.last + passed + 1 → is_same running.current members ≡ false
      → IsIntervalsOf enough by_place (grown h passed members facts) cleans (record running { past = running.past ++ ended (record running { last = epoch - 1 }) facts ∷ []; first = epoch; last = epoch; current = members; clean = false })
  is_over h running is zero members facts epoch later differs =
      let before : running.last ≡ epoch - 1 = omega (arith, later) in
      subst (λ (last : ℕ). IsIntervalsOf enough by_place (grown h 0 members facts) cleans (record running { past = running.past ++ ended (record running { last = last }) facts ∷ []; first = epoch; last = epoch; current = members; clean = false }))
      before (ends h running is members facts epoch (omega (arith, later)) differs)
  is_over h running is (suc passed) members facts epoch later differs =
      subst (λ (g : History C). IsIntervalsOf enough by_place g cleans (record running { past = running.past ++ ended (record running { last = epoch - 1 }) facts ∷ []; first = epoch; last = epoch; current = members; clean = false })) (sym (grown-more h members facts passed))
      (is_over (stepped h h.current facts) (record running { last = running.last + 1 }) (passes h running is facts) passed members facts epoch (omega (arith, later)) differs)

  -- the group was clean in an epoch of the interval, where it goes on to this epoch
  pub clean_until : (h : History C) (running : Running C) → IsIntervalsOf enough by_place h cleans running → (to : ℕ) → running.last ≤ to → running.clean ≡ was_clean cleans running.first to
  clean_until h running is to later = is.clean_is ∙ sym (was_clean-later cleans running.first running.last to (none_after h running is) later)

  -- some epochs more of the same membership, whatever their maps say of the primary
  pub stays_on : (h : History C) (running : Running C) → IsIntervalsOf enough by_place h cleans running → (told : List PrimaryFacts) (to : ℕ) → to ≡ running.last + length told → IsIntervalsOf enough by_place (stayed h told) cleans (record running { last = to })
  stays_on h running is [] to here =
      let same : h.lived ++ [] ≡ h.lived = append-nil h.lived in
      rw (here, add-zero running.last)
      (subst (λ (l : List EpochState). IsIntervalsOf enough by_place (record h { lived = l }) cleans running) (sym same) is)
  stays_on h running is (facts ∷ told) to here =
      let lasting : PrimaryFacts → EpochState = λ told. record { members = h.current; facts = told } in
      subst (λ (l : List EpochState). IsIntervalsOf enough by_place (record h { lived = l }) cleans (record running { last = to }))
      (append_assoc h.lived (lasting facts ∷ []) (map lasting told))
      (stays_on (stepped h h.current facts) (record running { last = running.last + 1 }) (passes h running is facts) told to (omega (arith, here)))

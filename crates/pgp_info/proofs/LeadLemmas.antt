-- What is kept of the best info stays the best one while infos come and go.
use Rattle.std.proofs.Common.{◌≡◌, ℕ, ◌<◌, ◌≤◌, List, [], ◌∷◌, ◌++◌, Option, Some, None, Bool, true, false, not, nat_eq, eqb-true, filter, append-nil, refl, ap, sym, ◌∙◌, subst, inl, inr, arith}
use Rattle.std.specs.List.{Contains}
use Rattle.std.proofs.lemmas.Bool.{cases_Bool, cases_lt, not-true}
use Rattle.std.proofs.lemmas.Bool.Decides.{nat_tests}
use Rattle.std.proofs.lemmas.List.Elements.{filter-append}
use Rattle.std.specs.Option.{option_map_or}
use Rattle.pgp_ids.specs.Member.{is_same_member}
use Rattle.pgp_ids.specs.declared.member.Member.{Member}
use Rattle.pgp_ids.specs.declared.report.Info.{Info}
use Rattle.pgp_lists.proofs.Members.{Contains-nil, Contains-here, filter-contains, contains-filter}
use Rattle.pgp_info.specs.Preference.{IsPreference}
use Rattle.pgp_info.specs.Best.{HasDistinctMembers, last_start, candidates, best_info}
use Rattle.pgp_info.specs.Heard.{without, with_info}
use Rattle.pgp_info.specs.Lead.{has_served_since, best_beside, stays_without, IsLead, AreLed}
use Rattle.pgp_info.specs.declared.lead.Lead.{Lead}
use Rattle.std.proofs.lemmas.List.{take_more}
use Rattle.pgp_info.proofs.BestLemmas.{distinct_take, distinct_passing, distinct_without, distinct_with, Finds, unbeaten_of_all, search_push, finds-search, search-finds}
use Rattle.pgp_info.proofs.StartLemmas.{AllAmong, passing-among, starts-among, served-before, start-push}

none_among : (xs : List Info) → ((info : Info) → Contains xs info → ⊥) → xs ≡ []
none_among [] none = refl
none_among (x ∷ xs) none = absurd (none x (Contains-here x xs))

-- no copy served since an epoch later than all that the infos tell of
none_since : (start : ℕ) (infos : List Info) → last_start infos < start → filter (has_served_since start) infos ≡ []
none_since start infos later =
    none_among (filter (has_served_since start) infos) (λ info in'.
    let kept = filter-contains (has_served_since start) infos info in' in
    grind (arith, nat_tests, kept.1, served-before infos info kept.0))

module _ (better : Info → Info → Bool) (laws : IsPreference better) where
  -- ---- one info more

  -- what is left of those before, where it tells of its start
  abbrev AreRivals : List Info → Info → Lead → Type 0
  AreRivals infos x rivals = (rivals.start ≡ last_start (infos ++ x ∷ [])) × (unbeaten_of_all better (filter (has_served_since rivals.start) infos) ≡ rivals.best)

  rivals_since : (infos : List Info) (x : Info) (lead rivals : Lead) → IsLead better infos lead
      → (lead.start < last_start (x ∷ []) → rivals ≡ record { start = last_start (x ∷ []); best = None })
      → (last_start (x ∷ []) ≤ lead.start → rivals ≡ lead) → AreRivals infos x rivals
  rivals_since infos x lead rivals led later known =
      grind (arith, cases_lt lead.start (last_start (x ∷ [])), start-push infos x, led, later, known, none_since (last_start (x ∷ [])) infos)

  best_with : (infos : List Info) (x : Info) → HasDistinctMembers (infos ++ x ∷ []) → (rivals : Lead) → AreRivals infos x rivals
      → best_beside better rivals.start x rivals.best ≡ best_info better (infos ++ x ∷ [])
  best_with infos x distinct rivals are =
      let test = has_served_since rivals.start in
      let all : unbeaten_of_all better (filter test infos ++ filter test (x ∷ [])) ≡ best_info better (infos ++ x ∷ []) =
      ap (unbeaten_of_all better) (sym (filter-append test infos (x ∷ []))) ∙ ap (λ s. unbeaten_of_all better (filter (has_served_since s) (infos ++ x ∷ []))) are.0 in
      let grown : HasDistinctMembers (filter test infos ++ filter test (x ∷ [])) = subst HasDistinctMembers (filter-append test infos (x ∷ [])) (distinct_passing test (infos ++ x ∷ []) distinct) in
      elim (cases_Bool (test x)) [
        | inl passes ↦ rw passes (sym (search_push better laws (filter test infos) x (rw passes at grown) rivals.best are.1) ∙ rw passes at all)
        | inr fails ↦ rw fails (sym are.1 ∙ ap (unbeaten_of_all better) (sym (append-nil (filter test infos))) ∙ rw fails at all)
      ]

  pub lead_with : (infos : List Info) (x : Info) → HasDistinctMembers (infos ++ x ∷ []) → (lead rivals : Lead) → IsLead better infos lead
      → (lead.start < last_start (x ∷ []) → rivals ≡ record { start = last_start (x ∷ []); best = None })
      → (last_start (x ∷ []) ≤ lead.start → rivals ≡ lead)
      → IsLead better (infos ++ x ∷ []) (record rivals { best = best_beside better rivals.start x rivals.best })
  lead_with infos x distinct lead rivals led later known =
      let are = rivals_since infos x lead rivals led later known in
      record { start = are.0; best = best_with infos x distinct rivals are }

  -- ---- some of the infos

  finds_among : (all some : List Info) → AllAmong some all → (best : Option Info) → Finds better all best → ((m : Info) → best ≡ Some m → Contains some m) → Finds better some best
  finds_among all some among None finds stays = none_among some (λ info in'. Contains-nil info (subst (λ (l : List Info). Contains l info) finds (among info in')))
  finds_among all some among (Some m) finds stays = (stays m refl, λ other in'. finds.1 other (among other in'))

  module _ (all some : List Info) (distinct : HasDistinctMembers all) (fewer : HasDistinctMembers some) (among : AllAmong some all) (lead : Lead) (led : IsLead better all lead) where
    finds_all : Finds better (candidates all) lead.best
    finds_all = search-finds better laws (candidates all) (distinct_passing (has_served_since (last_start all)) all distinct) lead.best (sym led.best)

    leads_all : (m : Info) → lead.best ≡ Some m → Contains all m × (has_served_since (last_start all) m ≡ true)
    leads_all m is = filter-contains (has_served_since (last_start all)) all m ((subst (Finds better (candidates all)) is finds_all).0)

    -- the best one stays the best of fewer infos that tell of the same start, where it is one of them
    pub lead_among : ((m : Info) → lead.best ≡ Some m → Contains some m) → last_start some ≡ lead.start → IsLead better some lead
    lead_among stays start =
        let same : last_start some ≡ last_start all = start ∙ led.start in
        let passing : AllAmong (candidates some) (candidates all) =
        subst (λ s. AllAmong (filter (has_served_since s) some) (candidates all)) (sym same) (passing-among (has_served_since (last_start all)) some all among) in
        let finds : Finds better (candidates some) lead.best =
        finds_among (candidates all) (candidates some) passing lead.best finds_all (λ m is.
        contains-filter (has_served_since (last_start some)) some m (stays m is) (ap (λ s. has_served_since s m) same ∙ (leads_all m is).1)) in
        record {
          start = sym start;
          best = sym (finds-search better laws (candidates some) (distinct_passing (has_served_since (last_start some)) some fewer) lead.best finds);
        }

    -- as long as it is there no less a start is told
    pub lead_stays : (m : Info) → lead.best ≡ Some m → Contains some m → IsLead better some lead
    lead_stays m is in' =
        let start : last_start some ≡ lead.start =
        grind (arith, nat_tests, (leads_all m is).1, served-before some m in', starts-among some all among, led.start) in
        lead_among (λ n other. subst (Contains some) (let same : m ≡ n = cc in same) in') start

  -- ---- without a member

  module _ (all left : List Info) (member : Member) (distinct : HasDistinctMembers all) (is : left ≡ without member all) (lead : Lead) (led : IsLead better all lead) where
    abbrev other : Info → Bool
    other info = not (is_same_member info.member member)

    pub left_distinct : HasDistinctMembers left
    left_distinct = subst HasDistinctMembers (sym is) (distinct_without member all distinct)

    left-among : AllAmong left all
    left-among info in' = (filter-contains other all info (subst (λ (l : List Info). Contains l info) is in')).0

    -- the best one of another member stays
    pub lead_without : (best : Info) → lead.best ≡ Some best → is_same_member best.member member ≡ false → IsLead better left lead
    lead_without best found apart =
        let there : Contains all best = (leads_all all all distinct distinct (λ _ in'. in') lead led best found).0 in
        lead_stays all left distinct left_distinct left-among lead led best found
        (subst (λ (l : List Info). Contains l best) (sym is) (contains-filter other all best there (ap not apart)))

    pub left_stays : stays_without member left lead ≡ true → IsLead better left lead
    left_stays stays = by lead.best refl stays
      where
        by : (best : Option Info) → lead.best ≡ best → option_map_or (λ (m : Info). not (is_same_member m.member member)) best (nat_eq (last_start left) lead.start) ≡ true → IsLead better left lead
        by None none same = lead_among all left distinct left_distinct left-among lead led (λ m leads. cc) (eqb-true (last_start left) lead.start same)
        by (Some best) found apart = lead_without best found (not-true (is_same_member best.member member) apart)

-- ---- infos that are put and dropped

module _ (better : Info → Info → Bool) (member : Member) (old left : List Info) (lead others : Lead) (are : AreLed better old lead) (is : left ≡ without member old)
    (keeps : (infos : List Info) → HasDistinctMembers infos → left ≡ without member infos → IsLead better infos lead → IsLead better left others) where
  pub led_left : AreLed better left others
  led_left = record {
    distinct = subst HasDistinctMembers (sym is) (distinct_without member old are.distinct);
    led = keeps old are.distinct is are.led;
  }

pub led_put : (better : Info → Info → Bool) (info : Info) (old left pushed : List Info) (others lead : Lead) → HasDistinctMembers old → AreLed better left others
    → left ≡ without info.member old → pushed ≡ left ++ info ∷ []
    → ((infos : List Info) → HasDistinctMembers (infos ++ info ∷ []) → IsLead better infos others → IsLead better (infos ++ info ∷ []) lead) → AreLed better pushed lead
led_put better info old left pushed others lead distinct are is new joins =
    let all : pushed ≡ with_info info old = new ∙ ap (λ (l : List Info). l ++ info ∷ []) is in
    let apart : HasDistinctMembers pushed = subst HasDistinctMembers (sym all) (distinct_with info old distinct) in
    record { distinct = apart; led = subst (λ l. IsLead better l lead) (sym new) (joins left (subst HasDistinctMembers new apart) are.led) }

-- ---- the best info beside one more, and without another member

pub best_known : (better : Info → Info → Bool) (infos : List Info) (info : Info) → IsPreference better → HasDistinctMembers (infos ++ info ∷ [])
    → last_start (info ∷ []) ≤ last_start infos → best_info better (infos ++ info ∷ []) ≡ best_beside better (last_start infos) info (best_info better infos)
best_known better infos info laws distinct early =
    let lead : Lead = record { start = last_start infos; best = best_info better infos } in
    sym (lead_with better laws infos info distinct lead lead (record { start = refl; best = refl }) (λ late. absurd (omega arith)) (λ _. refl)).best

pub best_later : (better : Info → Info → Bool) (infos : List Info) (info : Info) → IsPreference better → HasDistinctMembers (infos ++ info ∷ [])
    → last_start infos < last_start (info ∷ []) → best_info better (infos ++ info ∷ []) ≡ best_beside better (last_start (info ∷ [])) info None
best_later better infos info laws distinct late =
    let lead : Lead = record { start = last_start infos; best = best_info better infos } in
    let rivals : Lead = record { start = last_start (info ∷ []); best = None } in
    sym (lead_with better laws infos info distinct lead rivals (record { start = refl; best = refl }) (λ _. refl) (λ early. absurd (omega arith))).best

pub best_without : (better : Info → Info → Bool) (infos : List Info) (best : Info) (member : Member) → IsPreference better → HasDistinctMembers infos
    → best_info better infos ≡ Some best → is_same_member best.member member ≡ false → best_info better (without member infos) ≡ Some best
best_without better infos best member laws distinct is apart =
    sym (lead_without better laws infos (without member infos) member distinct refl (record { start = last_start infos; best = best_info better infos })
    (record { start = refl; best = refl }) best is apart).best ∙ is

pub ruleset beside_laws = (best_known, best_later)

pub ruleset among_laws = (take_more, distinct_take)

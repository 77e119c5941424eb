-- Intervals stay as the history goes on, and lie one after another.
use Rattle.pgp_compact.proofs.Common.{AnyCode, Bool, Contains, GroupLog, HasReached, History, Incremental, LieEndToEnd, List, Membership, Past, PgId, PrimaryFacts, Some, Span, [], along, ap, ap₂, are_checked, arith, cases_Bool, cases_lt, clean_spans, contains-any, contains-filter, contains-map, contains-push, current_span, current_state, ends_at, enough_of, filter, filter-contains, front-checked, get_or_append_left, get_or_default, get_or_push, group_history, grown, grown-more, grown_with, history-grows, incs, inl, inr, is_by_place, is_in_span, last-checked, last_place, length_push, les, lie_end_to_end, list_any, list_any-append, map, map-contains, map_some, members_at-last_place, membership, nat_le, nat_tests, not, epochs_ascend, opening_of, opening_of-le, opening_of-opens, opening_of-stays, opens_at, or-true, passed_over, past_ending, past_ends, past_intervals, past_interval, past_spans, primary_facts, range_with_len, refl, span_of, state_at, stepped, subst, suc, sym, then_with, true, wants_clean, zero, ℕ, ◌&&◌, ◌++◌, ◌+◌, ◌<◌, ◌||◌, ◌∙◌, ◌∷◌, ◌≡◌, ◌≤◌, ◌⊎◌, range-contains}
use Rattle.pgp_compact.proofs.SpanLemmas.{LieApart, apart-lower}

-- ---- a history that goes on

-- the second history goes on from the first: intervals open where they opened, and epochs that are over stay
pub record GoesOn (h after : History AnyCode) : Type 0 where
  pub code : after.code ≡ h.code
  pub first : after.first ≡ h.first
  pub longer : last_place h ≤ last_place after
  pub opens : (place : ℕ) → place ≤ last_place h → opens_at after place ≡ opens_at h place
  pub states : (place : ℕ) → place < last_place h → state_at after place ≡ state_at h place

opens-stay : (h : History AnyCode) (members : Membership) (facts : PrimaryFacts) (place : ℕ) → place ≤ last_place h → opens_at (stepped h members facts) place ≡ opens_at h place
opens-stay h members facts place within = grind (arith, get_or_append_left, get_or_default, get_or_push, members_at-last_place)

states-stay : (h : History AnyCode) (members : Membership) (facts : PrimaryFacts) (place : ℕ) → place < last_place h → state_at (stepped h members facts) place ≡ state_at h place
states-stay h members facts place before =
    get_or_append_left h.lived _ _ place before ∙ get_or_default h.lived place (current_state (stepped h members facts)) (current_state h) before

steps-further : (h now : History AnyCode) (members : Membership) (facts : PrimaryFacts) → GoesOn h now → GoesOn h (stepped now members facts)
steps-further h now members facts on = record {
  code = on.code;
  first = on.first;
  longer = omega (arith, on.longer, length_push now.lived (record { members = now.current; facts = facts }));
  opens = λ place within. opens-stay now members facts place (omega (arith, within, on.longer)) ∙ on.opens place within;
  states = λ place before. states-stay now members facts place (omega (arith, before, on.longer)) ∙ on.states place before;
}

-- the epochs that are passed over are steps too
goes-further : (h now : History AnyCode) (passed : ℕ) (members : Membership) (facts : PrimaryFacts) → GoesOn h now → GoesOn h (grown now passed members facts)
goes-further h now zero members facts on = steps-further h now members facts on
goes-further h now (suc passed) members facts on =
    subst (GoesOn h) (sym (grown-more now members facts passed))
    (goes-further h (stepped now now.current facts) passed members facts (steps-further h now now.current facts on))

pub history-goes_on : (pg : PgId) (incs later : List Incremental) (h after : History AnyCode) → are_checked (incs ++ later) ≡ true
    → group_history incs pg ≡ Some h → group_history (incs ++ later) pg ≡ Some after → GoesOn h after
history-goes_on pg incs later h after checked is then' =
    along pg (λ _ now. GoesOn h now)
    (λ incs inc now next checked is then' on.
    let facts : PrimaryFacts = primary_facts incs now.current.acting_primary in
    let before = epochs_ascend incs (front-checked incs (inc ∷ []) checked) in
    let grows = history-grows incs inc pg now before (last-checked incs inc checked) is in
    let m = map_some (grown_with incs inc now) (membership (then_with incs inc) pg) next (sym grows ∙ then') in
    subst (GoesOn h) m.2 (goes-further h now (passed_over incs inc) m.0 facts on))
    later incs h after checked is then'
    (record { code = refl; first = refl; longer = omega arith; opens = λ place within. refl; states = λ place before. refl })

-- an interval that opens at this place or before opens where the interval of this place does, or before
opens-before : (h : History AnyCode) (opening place : ℕ) → opens_at h opening ≡ true → opening ≤ place → opening ≤ opening_of h place
opens-before h opening zero opens within = omega arith
opens-before h opening (suc place) opens within =
    grind (arith, opening_of-opens h (suc place), opening_of-stays h place, opens-before h opening place opens)

opens-there : (h : History AnyCode) (place : ℕ) → opens_at h (opening_of h place) ≡ true
opens-there h zero = ap (opens_at h) (opening_of-opens h zero refl)
opens-there h (suc place) =
    grind (arith, cases_Bool (opens_at h (suc place)), opening_of-opens h (suc place), opening_of-stays h place, opens-there h place)

-- the interval of a place that was known opens where it opened, up to whichever place it goes on
opening-stays : (h after : History AnyCode) → GoesOn h after → (place last : ℕ) → place ≤ last_place h → place ≤ last → opening_of after last ≤ place
    → opening_of after last ≡ opening_of h place
opening-stays h after on place last known within opens =
    let low = opening_of-le h place in
    let there = sym (on.opens (opening_of after last) (omega (arith, opens, known))) ∙ opens-there after last in
    let back = on.opens (opening_of h place) (omega (arith, low, known)) ∙ opens-there h place in
    omega (arith, opens-before h (opening_of after last) place there opens, opens-before after (opening_of h place) last back (omega (arith, low, within)))

-- ---- intervals in which clean epochs can matter

-- the interval of the history that ends at this place
abbrev pub span_ending : History AnyCode → ℕ → Span
span_ending h last = record { first = h.first + opening_of h last; last = h.first + last }

-- clean epochs of it can matter to a group of this history that last began to serve in the epoch `les`
abbrev pub CanMatter : History AnyCode → ℕ → ℕ → Type 0
CanMatter h les last =
    (last ≡ last_place h) ⊎ ((ends_at h last ≡ true) × (wants_clean h.code les (past_ending enough_of is_by_place [] h last) ≡ true))

-- each of those in which clean epochs can matter ends at some place
pub spans-are : (g : GroupLog) (span : Span) → Contains (clean_spans g) span → (last : ℕ) × (span ≡ span_ending g.history last) × CanMatter g.history (les g) last
spans-are g span there = elim (contains-push (past_spans g.history (les g)) (current_span g.history) span there) [
  | inl past ↦
      let h : History AnyCode = g.history in
      let made = map-contains span_of (filter (wants_clean h.code (les g)) (past_intervals enough_of is_by_place [] h)) span past in
      let kept = filter-contains (wants_clean h.code (les g)) (past_intervals enough_of is_by_place [] h) made.0 made.1.0 in
      let found = map-contains (past_ending enough_of is_by_place [] h) (past_ends h) made.0 kept.0 in
      let ends = (filter-contains (ends_at h) (range_with_len 0 (last_place h)) found.0 found.1.0).1 in
      (found.0, sym made.1.1 ∙ ap span_of (sym found.1.1), inr (ends, ap (wants_clean h.code (les g)) found.1.1 ∙ kept.1))
  | inr same ↦ (last_place g.history, sym same, inl refl)
]

-- the interval was among those in which clean epochs could matter, as far as it had come
pub record WasAmong (g : GroupLog) (after : History AnyCode) (last : ℕ) : Type 0 where
  pub span : Span
  pub there : (test : Span → Bool) → test span ≡ true → list_any test (clean_spans g) ≡ true
  pub same : (epoch : ℕ) → HasReached g epoch → is_in_span epoch span ≡ is_in_span epoch (span_ending after last)

-- where they can matter to a group that began to serve later, they can to one that began to serve earlier
wanted-before : (can recorded : Bool) (less more last : ℕ) → less ≤ more → (can && (not recorded || nat_le more last)) ≡ true → (can && (not recorded || nat_le less last)) ≡ true
wanted-before can recorded less more last rises wants = grind (arith, nat_tests)

-- an interval that was over
was-past : (g : GroupLog) (after : History AnyCode) → GoesOn g.history after → (later : ℕ) → les g ≤ later → (last : ℕ) → ends_at after last ≡ true
    → wants_clean after.code later (past_ending enough_of is_by_place [] after last) ≡ true → last < last_place g.history → WasAmong g after last
was-past g after on later rises last ends wants over =
    let h : History AnyCode = g.history in
    let p : Past = past_ending enough_of is_by_place [] h last in
    let opens : opening_of after last ≡ opening_of h last = opening-stays h after on last last (omega (arith, over)) (omega arith) (opening_of-le after last) in
    let same : past_ending enough_of is_by_place [] after last ≡ p =
    λ i. past_interval (enough_of (on.code i)) (is_by_place (on.code i)) [] (on.first i + opens i) (on.first i + last) (on.states last over i) in
    let then' : wants_clean h.code later p ≡ true = ap₂ (λ (code : AnyCode) (q : Past). wants_clean code later q) (sym on.code) (sym same) ∙ wants in
    let wanted : wants_clean h.code (les g) p ≡ true = wanted-before _ _ (les g) later p.last rises then' in
    let ended = contains-filter (ends_at h) (range_with_len 0 (last_place h)) last (range-contains (last_place h) last over) (sym (on.opens (suc last) (omega (arith, over))) ∙ ends) in
    let listed = contains-map (past_ending enough_of is_by_place [] h) (past_ends h) last ended in
    let kept = contains-map span_of _ p (contains-filter (wants_clean h.code (les g)) (past_intervals enough_of is_by_place [] h) p listed wanted) in
    record {
      span = span_of p;
      there = λ test passes.
          let some = contains-any test (past_spans h (les g)) (span_of p) kept passes in
          list_any-append test (past_spans h (les g)) (current_span h ∷ []) ∙ ap (λ b. b || list_any test (current_span h ∷ [])) some;
      same = λ epoch known i. is_in_span epoch (record { first = sym on.first i + sym opens i; last = sym on.first i + last });
    }

-- the interval that was current
was-current : (g : GroupLog) (after : History AnyCode) → GoesOn g.history after → (last epoch : ℕ) → HasReached g epoch
    → is_in_span epoch (span_ending after last) ≡ true → last_place g.history ≤ last → WasAmong g after last
was-current g after on last epoch known within now =
    let h : History AnyCode = g.history in
    let low : opening_of after last ≤ last_place h = grind (arith, nat_tests, on.first) in
    let opens : opening_of after last ≡ opening_of h (last_place h) = opening-stays h after on (last_place h) last (omega arith) now low in
    record {
      span = current_span h;
      there = λ test passes. grind (arith, list_any-append test (past_spans h (les g)) (current_span h ∷ []), or-true);
      same = λ epoch known. grind (arith, nat_tests, opens, on.first);
    }

-- an interval in which clean epochs can matter later, of which an epoch was known
pub was-among : (g : GroupLog) (after : History AnyCode) → GoesOn g.history after → (later : ℕ) → les g ≤ later → (last epoch : ℕ) → CanMatter after later last
    → HasReached g epoch → is_in_span epoch (span_ending after last) ≡ true → WasAmong g after last
was-among g after on later rises last epoch matters known within = elim (cases_lt last (last_place g.history)) [
  | inl over ↦ elim matters [
    | inl current ↦ absurd (omega (arith, current, over, on.longer))
    | inr past ↦ was-past g after on later rises last past.0 past.1 over
  ]
  | inr now ↦ was-current g after on last epoch known within now
]

-- ---- they lie one after another

apart-among : (h : History AnyCode) (les from : ℕ) (past : List Past) → LieEndToEnd h from past → LieApart from (map span_of (filter (wants_clean h.code les) past) ++ current_span h ∷ [])
apart-among h les from [] lie = (omega (arith, lie), omega (arith, opening_of-le h (last_place h)), tt)
apart-among h les from (p ∷ past) lie =
    let rest = apart-among h les (p.last + 1) past lie.3 in
    elim (cases_Bool (wants_clean h.code les p)) [
      | inl wants ↦ rw wants (omega (arith, lie.0), lie.1, rest)
      | inr other ↦ rw other (apart-lower from (p.last + 1) _ (omega (arith, lie.0, lie.1)) rest)
    ]

pub spans-apart : (h : History AnyCode) (les : ℕ) → LieApart h.first (past_spans h les ++ current_span h ∷ [])
spans-apart h les = apart-among h les h.first (past_intervals enough_of is_by_place [] h) (lie_end_to_end enough_of is_by_place [] h)

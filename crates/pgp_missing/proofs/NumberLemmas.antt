-- A log has as many entries as it has numbers exactly where each of its numbers has an entry.
use Rattle.std.proofs.Common.{◌≡◌, ◌⊎◌, ℕ, suc, ◌-◌, ◌<◌, ◌≤◌, List, [], ◌∷◌, true, false, nat_eq, nat_lt, nat_le, eqb-true, eq-eqb, length, refl, ap, sym, ◌∙◌, inl, inr, arith}
use Rattle.std.specs.List.{Contains}
use Rattle.std.specs.Prelude.{⊤, ◌↔◌}
use Rattle.std.proofs.Math.Bool.{or-false}
use Rattle.std.proofs.lemmas.Bool.{and_from, or_left, or_right, or_from, cases_Bool, cases_lt, lt-ltb, le-leb, ne_eqb, eqb-false, true≢false}
use Rattle.std.proofs.lemmas.Bool.Decides.{eqb_tells, nat_tests}
use Rattle.std.proofs.lemmas.List.Elements.{All-contains}
use Rattle.pgp_ids.specs.declared.log_entry.LogEntry.{LogEntry}
use Rattle.pgp_ids.specs.declared.report.Info.{Info}
use Rattle.pgp_lists.proofs.Members.{Contains-here, Contains-later, any-contains, contains-any, none-contains}
use Rattle.pgp_lists.proofs.Pairs.{AllPairs-first, AllPairs-rest}
use Rattle.pgp_missing.specs.Last.{IsLast}
use Rattle.pgp_missing.specs.Log.{number_of, IsByNumber, is_in_log, log_of, has_number, has_each_number, HasEachNumber}
use Rattle.pgp_missing.proofs.LastLemmas.{IsLast-here, IsLast-later, Contains-last}
use Rattle.pgp_missing.proofs.MissingLemmas.{Less_number, log_of-ascends, log_of-last}

-- the entries are by number, above one number and up to another
abbrev Climbs : ℕ → ℕ → List LogEntry → Type 0
Climbs high low [] = ⊤
Climbs high low (e ∷ es) = (low < e.version.v) × (e.version.v ≤ high) × Climbs high e.version.v es

climbs : (high low : ℕ) (entries : List LogEntry) → IsByNumber entries → ((e : LogEntry) → Contains entries e → (low < e.version.v) × (e.version.v ≤ high)) → Climbs high low entries
climbs high low [] ascends each = tt
climbs high low (e ∷ es) ascends each =
    let here = each e (Contains-here e es) in
    let later = AllPairs-first Less_number e es ascends in
    (here.0, here.1, climbs high e.version.v es (AllPairs-rest Less_number e es ascends) (λ x in'. (All-contains (Less_number e) es x later in', (each x (Contains-later e es x in')).1)))

none_below : (high low v : ℕ) (entries : List LogEntry) → Climbs high low entries → v ≤ low → has_number v entries ≡ false
none_below high low v [] climb below = refl
none_below high low v (e ∷ es) climb below =
    grind (arith, nat_tests, climb, none_below high e.version.v v es climb.2)

-- each number has an entry, and there are as many entries as numbers
abbrev Full : ℕ → ℕ → List LogEntry → Type 0
Full high low entries = (length entries ≡ high - low) × ((v : ℕ) → low < v → v ≤ high → has_number v entries ≡ true)

-- some number has none, and there are fewer
abbrev Lacks : ℕ → ℕ → List LogEntry → Type 0
Lacks high low entries = (length entries < high - low) × (v : ℕ) × (low < v) × (v ≤ high) × (has_number v entries ≡ false)

full_or_lacks : (high low : ℕ) (entries : List LogEntry) → Climbs high low entries → Full high low entries ⊎ Lacks high low entries
full_or_lacks high low [] climb = elim (cases_lt low high) [
  | inl more ↦ inr (omega arith, high, more, omega arith, refl)
  | inr none ↦ inl (omega arith, λ v above below. absurd (omega arith))
]
full_or_lacks high low (e ∷ es) climb = elim (full_or_lacks high e.version.v es climb.2) [
  | inl full ↦ elim (eqb_tells e.version.v (suc low)) [
    | inl next ↦ inl (
      omega (arith, next.1, climb.1, full.0),
      λ v above below. elim (eqb_tells e.version.v v) [
        | inl here ↦ or_left (nat_eq e.version.v v) (has_number v es) here.0
        | inr other ↦ or_right (nat_eq e.version.v v) (has_number v es) (full.1 v (omega (arith, next.1, other.1)) below)
      ],
    )
    | inr gap ↦ inr (
      omega (arith, climb.0, climb.1, full.0, gap.1),
      suc low,
      omega arith,
      omega (arith, climb.0, climb.1),
      none_below high (suc low) (suc low) (e ∷ es) (omega (arith, climb.0, gap.1), climb.1, climb.2) (omega arith),
    )
  ]
  | inr lacks ↦ inr (
    omega (arith, climb.0, climb.1, lacks.0),
    lacks.1,
    omega (arith, climb.0, lacks.2),
    lacks.3,
    or_from (nat_eq e.version.v lacks.1) (has_number lacks.1 es) (ne_eqb e.version.v lacks.1 (λ same. omega (arith, lacks.2))) lacks.4,
  )
]

-- ---- what was reported with a number and what the log has

has_last : (v : ℕ) (reported : List LogEntry) → has_number v reported ≡ true → (entry : LogEntry) × IsLast number_of reported entry × (entry.version.v ≡ v)
has_last v [] has = cc
has_last v (x ∷ xs) has = elim (cases_Bool (has_number v xs)) [
  | inl later ↦ let rest = has_last v xs later in (rest.0, IsLast-later number_of x xs rest.0 rest.1, rest.2)
  | inr none ↦
      let is : x.version.v ≡ v = eqb-true x.version.v v (rw (none, or-false) at has) in
      let other = λ (e : LogEntry) (in' : Contains xs e). eqb-false e.version.v v (none-contains (λ (entry : LogEntry). nat_eq entry.version.v v) xs e none in') in
      (x, IsLast-here number_of x xs (λ e in' same. other e in' (same ∙ is)), is)
]

log_has : (info : Info) (reported : List LogEntry) (v : ℕ) → is_in_log info v ≡ true → has_number v reported ≡ true → has_number v (log_of info reported) ≡ true
log_has info reported v in_log has =
    let found = has_last v reported has in
    contains-any (λ (e : LogEntry). nat_eq e.version.v v) (log_of info reported) found.0
    ((log_of-last info reported found.0).1 (ap (is_in_log info) found.2 ∙ in_log, found.1)) (eq-eqb _ v found.2)

has_reported : (info : Info) (reported : List LogEntry) (v : ℕ) → has_number v (log_of info reported) ≡ true → has_number v reported ≡ true
has_reported info reported v has =
    let found = any-contains (λ (e : LogEntry). nat_eq e.version.v v) (log_of info reported) has in
    let last = ((log_of-last info reported found.0).0 found.1.0).1 in
    contains-any (λ (e : LogEntry). nat_eq e.version.v v) reported found.0 (Contains-last number_of reported found.0 last) found.1.1

log_climbs : (info : Info) (reported : List LogEntry) → Climbs info.last_update.v info.log_tail.v (log_of info reported)
log_climbs info reported =
    climbs info.last_update.v info.log_tail.v (log_of info reported) (log_of-ascends info reported)
    (λ e in'. grind (arith, nat_tests, ((log_of-last info reported e).0 in').0))

pub counted_exactly : (info : Info) (reported : List LogEntry) → (has_each_number info reported ≡ true) ↔ HasEachNumber info reported
counted_exactly info reported = elim (full_or_lacks info.last_update.v info.log_tail.v (log_of info reported) (log_climbs info reported)) [
  | inl full ↦ (λ _ v above below. has_reported info reported v (full.1 v above below), λ _. eq-eqb _ _ full.0)
  | inr lacks ↦
      let v : ℕ = lacks.1 in
      let in_log = and_from (nat_lt info.log_tail.v v) (nat_le v info.last_update.v) (lt-ltb info.log_tail.v v lacks.2) (le-leb v info.last_update.v lacks.3) in (
        λ counted. absurd (omega (arith, eqb-true _ _ counted, lacks.0)),
        λ each. absurd (true≢false (sym (log_has info reported v in_log (each v lacks.2 lacks.3)) ∙ lacks.4)),
      )
]

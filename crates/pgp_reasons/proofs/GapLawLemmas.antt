-- Each number that is lacked lies in a run, no other does, and runs don't touch.
use Rattle.std.proofs.Common.{◌≡◌, ℕ, zero, suc, ◌+◌, ◌-◌, ◌<◌, ◌≤◌, List, [], ◌∷◌, Bool, not, ◌&&◌, ◌||◌, nat_eq, nat_lt, nat_le, filter, refl, ap, sym, ◌∙◌, subst, inl, inr, arith}
use Rattle.std.specs.List.{Contains, list_any, range_with_len}
use Rattle.std.proofs.lemmas.Bool.{cases_Bool, eqb-true}
use Rattle.std.proofs.lemmas.Bool.Decides.{nat_tests}
use Rattle.pgp_ids.specs.declared.log_entry.LogEntry.{LogEntry}
use Rattle.pgp_ids.specs.declared.report.Info.{Info}
use Rattle.pgp_lists.proofs.Members.{filter-contains}
use Rattle.pgp_missing.specs.Log.{has_number, is_in_log}
use Rattle.pgp_reasons.specs.Gaps.{then_runs, runs_of, gaps_in, is_in_gap, AreApart}
use Rattle.pgp_reasons.specs.declared.gap.Gap.{Gap}
use Rattle.pgp_reasons.proofs.GapLemmas.{then-first, range-contains}

-- the first run begins after the number
BeginsAfter : ℕ → List Gap → Type 0
BeginsAfter v [] = Unit {0}
BeginsAfter v (run ∷ runs) = v < run.first

begins-after : (v : ℕ) (vs : List ℕ) → ((w : ℕ) → Contains vs w → v < w) → BeginsAfter v (runs_of vs)
unfolding BeginsAfter
begins-after v [] above = tt
begins-after v (w ∷ vs) above =
    let first = then-first w (runs_of vs) in
    subst (BeginsAfter v) (sym first.1.1) (above w (0, omega arith, refl))

first-sound : (run : Gap) (runs : List Gap) → AreApart (run ∷ runs) → run.first ≤ run.last
first-sound run [] apart = apart
first-sound run (next ∷ runs) apart = apart.0

apart-then : (v : ℕ) (runs : List Gap) → AreApart runs → BeginsAfter v runs → AreApart (then_runs v runs)
unfolding BeginsAfter
apart-then v [] apart after = omega arith
apart-then v (run ∷ []) apart after = elim (cases_Bool (nat_eq (v + 1) run.first)) [
  | inl next ↦ rw next (omega arith)
  | inr far ↦ let off : v + 1 < run.first = grind (arith, nat_tests) in rw far (omega arith, off, apart)
]
apart-then v (run ∷ other ∷ runs) apart after = elim (cases_Bool (nat_eq (v + 1) run.first)) [
  | inl next ↦ let sound : run.first ≤ run.last = apart.0 in rw next (omega arith, apart.1, apart.2)
  | inr far ↦ let off : v + 1 < run.first = grind (arith, nat_tests) in rw far (omega arith, off, apart)
]

in-then : (w v : ℕ) (runs : List Gap) → AreApart runs → list_any (is_in_gap w) (then_runs v runs) ≡ (nat_eq w v || list_any (is_in_gap w) runs)
in-then w v [] apart = grind (arith, nat_tests)
in-then w v (run ∷ runs) apart =
    let sound : run.first ≤ run.last = first-sound run runs apart in
    elim (cases_Bool (nat_eq (v + 1) run.first)) [
      | inl next ↦ rw next (grind (arith, nat_tests))
      | inr far ↦ rw far (grind (arith, nat_tests))
    ]

module _ (test : ℕ → Bool) where
  range-apart : (a n : ℕ) → AreApart (runs_of (filter test (range_with_len a n)))
  range-apart a zero = tt
  range-apart a (suc n) =
      let rest : AreApart (runs_of (filter test (range_with_len (a + 1) n))) = range-apart (a + 1) n in
      elim (cases_Bool (test a)) [
        | inl passes ↦ rw passes (apart-then a (runs_of (filter test (range_with_len (a + 1) n))) rest
            (begins-after a (filter test (range_with_len (a + 1) n)) (λ w in'.
            let within = range-contains (a + 1) n w (filter-contains test (range_with_len (a + 1) n) w in').0 in omega (arith, within.0))))
        | inr fails ↦ rw fails rest
      ]

  in-range : (w a n : ℕ) → list_any (is_in_gap w) (runs_of (filter test (range_with_len a n))) ≡ (nat_le a w && nat_lt w (a + n) && test w)
  in-range w a zero = grind (arith, nat_tests)
  in-range w a (suc n) =
      let runs : List Gap = runs_of (filter test (range_with_len (a + 1) n)) in
      let rest : list_any (is_in_gap w) runs ≡ (nat_le (a + 1) w && nat_lt w ((a + 1) + n) && test w) = in-range w (a + 1) n in
      elim (cases_Bool (nat_eq w a)) [
        | inl same ↦
            let is : w ≡ a = eqb-true w a same in
            let more : test w ≡ test a = ap test is in
            elim (cases_Bool (test a)) [
              | inl passes ↦ rw passes (in-then w a runs (range-apart (a + 1) n) ∙ grind (arith, nat_tests))
              | inr fails ↦ rw fails (rest ∙ grind (arith, nat_tests))
            ]
        | inr other ↦ elim (cases_Bool (test a)) [
          | inl passes ↦ rw passes (in-then w a runs (range-apart (a + 1) n) ∙ grind (arith, nat_tests))
          | inr fails ↦ rw fails (rest ∙ grind (arith, nat_tests))
        ]
      ]

pub gaps-apart : (info : Info) (reported : List LogEntry) → AreApart (gaps_in info reported)
gaps-apart info reported = range-apart (λ v. not (has_number v reported)) (info.log_tail.v + 1) (info.last_update.v - info.log_tail.v)

pub in-gaps : (info : Info) (reported : List LogEntry) (v : ℕ) → list_any (is_in_gap v) (gaps_in info reported) ≡ (is_in_log info v && not (has_number v reported))
in-gaps info reported v =
    in-range (λ w. not (has_number w reported)) v (info.log_tail.v + 1) (info.last_update.v - info.log_tail.v) ∙ grind (arith, nat_tests)

pub ruleset gap_laws = (gaps-apart, in-gaps)

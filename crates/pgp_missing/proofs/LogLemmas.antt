-- Entries outside of a log, and epochs that don't fall.
use Rattle.std.proofs.Common.{◌≡◌, ℕ, ◌≤◌, true, false, nat_le, refl, arith, leb-true, List, [], ◌∷◌, ◌++◌, ap, ◌∙◌}
use Rattle.std.specs.List.{All, AllPairs}
use Rattle.std.specs.Ordering.{nat_cmp}
use Rattle.std.proofs.lemmas.Bool.{cases_Bool, and_parts}
use Rattle.std.proofs.lemmas.Bool.Decides.{nat_tests}
use Rattle.std.proofs.lemmas.List.Elements.{All-nil, All-cons, All-head, All-weaker}
use Rattle.std.proofs.lemmas.List.Kept.{AllPairs-cons}
use Rattle.std.proofs.lemmas.List.Sums.{fold_push}
use Rattle.std.proofs.lemmas.Map.Lookups.{exact_unsigned}
use Rattle.pgp_ids.specs.declared.log_entry.LogEntry.{LogEntry}
use Rattle.pgp_ids.specs.declared.report.Info.{Info}
use Rattle.pgp_lists.proofs.Pairs.{AllPairs-nil, AllPairs-first, AllPairs-rest}
use Rattle.pgp_missing.specs.Last.{put_in}
use Rattle.pgp_missing.specs.Log.{number_of, by_number, is_in_log, within, log_of, is_rising_from}

-- ---- an entry outside of the log

module _ (info : Info) (new : LogEntry) (outside : is_in_log info new.version.v ≡ false) where
  within-put_in : (entries : List LogEntry) → within info (put_in number_of nat_cmp entries new) ≡ within info entries
  within-put_in [] = rw outside refl
  within-put_in (x ∷ xs) =
      grind (arith, outside, exact_unsigned new.version.v x.version.v, within-put_in xs, cases_Bool (is_in_log info x.version.v))

pub outside_log : (info : Info) (reported : List LogEntry) (new : LogEntry) → is_in_log info new.version.v ≡ false → log_of info (reported ++ new ∷ []) ≡ log_of info reported
outside_log info reported new outside = ap (within info) (fold_push (put_in number_of nat_cmp) [] reported new) ∙ within-put_in info new outside (by_number reported)

-- ---- epochs that don't fall

abbrev Rise : LogEntry → LogEntry → Type 0
Rise a b = a.version.epoch ≤ b.version.epoch

abbrev NoneBelow : ℕ → List LogEntry → Type 0
NoneBelow epoch entries = All (λ (e : LogEntry). epoch ≤ e.version.epoch) entries

pub rising-pairs : (epoch : ℕ) (entries : List LogEntry) → is_rising_from epoch entries ≡ true → NoneBelow epoch entries × AllPairs Rise entries
rising-pairs epoch [] up = (All-nil (λ (e : LogEntry). epoch ≤ e.version.epoch), AllPairs-nil Rise)
rising-pairs epoch (x ∷ xs) up =
    let parts = and_parts (nat_le epoch x.version.epoch) (is_rising_from x.version.epoch xs) up in
    let here : epoch ≤ x.version.epoch = leb-true epoch x.version.epoch parts.0 in
    let rest = rising-pairs x.version.epoch xs parts.1 in (
      All-cons (λ (e : LogEntry). epoch ≤ e.version.epoch) x xs here (All-weaker (Rise x) (λ (e : LogEntry). epoch ≤ e.version.epoch) (λ e more. omega arith) xs rest.0),
      AllPairs-cons Rise x xs rest.0 rest.1,
    )

pub pairs-rising : (epoch : ℕ) (entries : List LogEntry) → NoneBelow epoch entries × AllPairs Rise entries → is_rising_from epoch entries ≡ true
pairs-rising epoch [] up = refl
pairs-rising epoch (x ∷ xs) up =
    let here = All-head (λ (e : LogEntry). epoch ≤ e.version.epoch) x xs up.0 in
    let rest = pairs-rising x.version.epoch xs (AllPairs-first Rise x xs up.1, AllPairs-rest Rise x xs up.1) in
    grind (arith, nat_tests, here, rest)

pub ruleset rising_laws = (rising-pairs, pairs-rising)

-- What holds of legal logs.
use Rattle.pgp_log.proofs.Common.{◌≡◌, ℕ, ◌<◌, ◌≤◌, List, [], ◌∷◌, ◌++◌, Option, None, is_none, true, false, length, take, refl, ap, ap₂, sym, ◌∙◌, arith, length-append, option_map_or, take-append-le, get-append, none_is, Entry, are_checked, incs_of, fits, is_close, is_closed, is_accepted, is_accepted_at, is_legal, EndsWithClose, EpochsAscend, epochs_ascend}
use Rattle.pgp_lists.proofs.Taken.{taken-front, taken-induction, taken-last, taken-more, taken-take}
use Rattle.pgp_ids.specs.declared.entry.Entry.TheVariants as entry
use Rattle.pgp_log.proofs.TakeLemmas.{checked-push, closed-push, fits-faultless, fits-open_log, room-push}

-- ---- fronts, and one entry more

pub taken_in_front : (log later : List Entry) (n : ℕ) → n < length log → is_accepted_at (log ++ later) n ≡ is_accepted_at log n
taken_in_front log later n below =
    ap₂ (λ (before : List Entry) (found : Option Entry). option_map_or (is_accepted before) found true)
    (take-append-le n log later (omega arith)) (get-append log later n below)

pub front-legal : (log later : List Entry) → is_legal (log ++ later) ≡ true → is_legal log ≡ true
front-legal = taken-front is_accepted

pub legal-take : (n : ℕ) (log : List Entry) → is_legal log ≡ true → is_legal (take n log) ≡ true
legal-take = taken-take is_accepted

pub legal-last : (log : List Entry) (new : Entry) → is_legal (log ++ new ∷ []) ≡ true → fits log new ≡ None
legal-last log new legal = none_is (fits log new) (taken-last is_accepted log new legal)

pub legal-snoc : (log : List Entry) (new : Entry) → is_legal log ≡ true → fits log new ≡ None → is_legal (log ++ new ∷ []) ≡ true
legal-snoc log new legal fit = taken-more is_accepted log new legal (ap is_none fit)

-- what holds of no entries and goes on with each that fits holds of a legal log
pub legal-induction : (P : List Entry → Type 0) → P []
    → ((log : List Entry) (new : Entry) → fits log new ≡ None → P log → P (log ++ new ∷ []))
    → (log : List Entry) → is_legal log ≡ true → P log
legal-induction P none step =
    taken-induction is_accepted P none (λ log new legal fit before. step log new (none_is (fits log new) fit) before)

-- ---- its incrementals

pub legal-checked : (log : List Entry) → is_legal log ≡ true → are_checked (incs_of log) ≡ true
legal-checked = legal-induction (λ log. are_checked (incs_of log) ≡ true) refl
    (λ log new fit before. checked-push log new before (fits-faultless log new fit))

pub legal-ascends : (log : List Entry) → is_legal log ≡ true → EpochsAscend (incs_of log)
legal-ascends log legal = epochs_ascend (incs_of log) (legal-checked log legal)

-- ---- its length

-- a log is short, and has room while it is open
record IsShort (log : List Entry) : Type 0 where
  few : length log ≤ 65536
  room : is_closed log ≡ false → length log ≤ 65535

short-push : (log : List Entry) (new : Entry) → fits log new ≡ None → IsShort log → IsShort (log ++ new ∷ [])
short-push log new fit short =
    let opened : is_closed log ≡ false = fits-open_log log new fit in
    let few : length log ≤ 65535 = short.room opened in record {
      few = omega (arith, few, length-append log (new ∷ []));
      room = λ still. room-push log new fit (sym (closed-push log new opened) ∙ still);
    }

legal_short : (log : List Entry) → is_legal log ≡ true → IsShort log
legal_short = legal-induction IsShort (record { few = omega arith; room = λ opened. omega arith }) short-push

pub legal-short : (log : List Entry) → is_legal log ≡ true → length log ≤ 65536
legal-short log legal = (legal_short log legal).few

pub open-short : (log : List Entry) → is_legal log ≡ true → is_closed log ≡ false → length log ≤ 65535
open-short log legal = (legal_short log legal).room

-- ---- its end

closes : (new : Entry) → is_close new ≡ true → new ≡ entry.Close
closes entry.Close is = refl
closes new is = cc

end-push : (log : List Entry) (new : Entry) → fits log new ≡ None → is_closed (log ++ new ∷ []) ≡ true → EndsWithClose (log ++ new ∷ [])
end-push log new fit closed =
    let is : new ≡ entry.Close = closes new (sym (closed-push log new (fits-open_log log new fit)) ∙ closed) in
    record { before = log; whole = ap (λ (e : Entry). log ++ e ∷ []) is }

-- a log that was closed ends with the Close
pub closed-ends : (log : List Entry) → is_legal log ≡ true → is_closed log ≡ true → EndsWithClose log
closed-ends = legal-induction (λ log. is_closed log ≡ true → EndsWithClose log) (λ closed. cc) (λ log new fit before closed. end-push log new fit closed)

-- Fronts of one log.
use Rattle.std.proofs.Common.{◌≡◌, ℕ, ◌≤◌, List, [], ◌++◌, length, take, drop, ap, sym, ◌∙◌, arith, append_assoc, length-append}
use Rattle.std.proofs.lemmas.List.{take-append-le, take-append-drop, length-take-le, append-nil}
use mathlib.Core.List.{IsPrefix}
use Rattle.pgp_ids.specs.declared.entry.Entry.{Entry}
use Rattle.pgp_log.specs.Log.{IsFrontOf}

pub front_self : (log : List Entry) → IsFrontOf log log
front_self log = record { rest = []; whole = sym (append-nil log) }

pub front_trans : (a b c : List Entry) → IsFrontOf a b → IsFrontOf b c → IsFrontOf a c
front_trans a b c p q = record { rest = p.rest ++ q.rest; whole = q.whole ∙ (ap (λ l. l ++ q.rest) p.whole ∙ append_assoc a p.rest q.rest) }

take_within : (n m : ℕ) (log : List Entry) → n ≤ m → m ≤ length log → take n log ≡ take n (take m log)
take_within n m log le within =
    let room : n ≤ length (take m log) = omega (arith, length-take-le m log within) in
    ap (take n) (sym (take-append-drop m log)) ∙ take-append-le n (take m log) (drop m log) room

-- of two fronts of one log the shorter is a front of the longer
takes_front : (n m : ℕ) (log : List Entry) → n ≤ m → m ≤ length log → IsFrontOf (take n log) (take m log)
takes_front n m log le within =
    record { rest = drop n (take m log); whole = sym (take-append-drop n (take m log)) ∙ ap (λ l. l ++ drop n (take m log)) (sym (take_within n m log le within)) }

take_prefix : (n : ℕ) (part whole : List Entry) → IsPrefix part whole → n ≤ length part → take n part ≡ take n whole
take_prefix n part whole p within = sym (take-append-le n part p.0 within) ∙ ap (take n) p.1

pub shorter_front : (n m : ℕ) (a b both : List Entry) → IsPrefix a both → IsPrefix b both → n ≤ length a → m ≤ length b
    → length (take n a) ≤ length (take m b) → IsFrontOf (take n a) (take m b)
shorter_front n m a b both p q na mb le =
    let less : n ≤ m = omega (arith, length-take-le n a na, length-take-le m b mb, le) in
    let within : m ≤ length both = omega (arith, sym (ap length q.1) ∙ length-append b q.0) in
    rw (take_prefix n a both p na, take_prefix m b both q mb) (takes_front n m both less within)

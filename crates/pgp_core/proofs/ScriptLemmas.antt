-- The answers to one line more.
use Rattle.std.proofs.Common.{◌≡◌, ℕ, zero, suc, List, [], ◌∷◌, ◌++◌, Option, length, map, flat_map, refl, sym, ap, ◌∙◌, add-one, append_assoc, append-nil, arith}
use Rattle.std.specs.List.{range_with_len}
use Rattle.std.proofs.lemmas.List.Folds.{flat_map-map}
use Rattle.pgp_ids.specs.declared.entry.Entry.{Entry}
use Rattle.pgp_lines.specs.declared.command.format.Format.{Format}
use Rattle.pgp_core.specs.Script.{answer, answer_at, answers, log_past, logs}
use Rattle.pgp_core.specs.declared.want.Want.{Want}

range_with_len-later : (first n : ℕ) → range_with_len (suc first) n ≡ map suc (range_with_len first n)
range_with_len-later first zero = refl
range_with_len-later first (suc n) =
    let later : range_with_len (suc (suc first)) n ≡ map suc (range_with_len (suc first) n) = range_with_len-later (suc first) n in
    ap (λ later. suc first ∷ later) (rw (add-one (suc first), add-one first) later)

-- the answer to the first line, and those to the others by the log after it
pub answers-cons : (format : Format) (log : List Entry) (m : Option Want) (met : List (Option Want)) (l : List ℕ) (lines : List (List ℕ))
    → answers format log (m ∷ met) (l ∷ lines) ≡ answer format log m l ++ answers format (log_past format log m l) met lines
answers-cons format log m met l lines =
    let at = answer_at format log (m ∷ met) (l ∷ lines) in
    let later : flat_map at (range_with_len 1 (length met)) ≡ answers format (log_past format log m l) met lines =
    ap (flat_map at) (range_with_len-later 0 (length met)) ∙ flat_map-map at suc (range_with_len 0 (length met)) in
    ap (λ rest. answer format log m l ++ rest) later

pub answers-push : (format : Format) (log : List Entry) (met : List (Option Want)) (lines : List (List ℕ)) (m : Option Want) (line : List ℕ) → length met ≡ length lines
    → answers format log (met ++ m ∷ []) (lines ++ line ∷ []) ≡ answers format log met lines ++ answer format (logs format log met lines) m line
answers-push format log [] [] m line same = append-nil (answer format log m line)
answers-push format log [] (l ∷ lines) m line same = absurd (omega arith)
answers-push format log (n ∷ met) [] m line same = absurd (omega arith)
answers-push format log (n ∷ met) (l ∷ lines) m line same =
    let tails : length met ≡ length lines = omega arith in
    let past = log_past format log n l in
    let last = answer format (logs format past met lines) m line in
    answers-cons format log n (met ++ m ∷ []) l (lines ++ line ∷ []) ∙ ap (λ text. answer format log n l ++ text) (answers-push format past met lines m line tails)
    ∙ sym (append_assoc (answer format log n l) (answers format past met lines) last) ∙ ap (λ text. text ++ last) (sym (answers-cons format log n met l lines))

pub logs-push : (format : Format) (log : List Entry) (met : List (Option Want)) (lines : List (List ℕ)) (m : Option Want) (line : List ℕ) → length met ≡ length lines
    → logs format log (met ++ m ∷ []) (lines ++ line ∷ []) ≡ log_past format (logs format log met lines) m line
logs-push format log [] [] m line same = refl
logs-push format log [] (l ∷ lines) m line same = absurd (omega arith)
logs-push format log (n ∷ met) [] m line same = absurd (omega arith)
logs-push format log (n ∷ met) (l ∷ lines) m line same = let tails : length met ≡ length lines = omega arith in logs-push format (log_past format log n l) met lines m line tails

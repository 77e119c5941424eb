-- What is kept of later reports says which earlier ones they make needless.
use Rattle.std.proofs.Math.Bool.{and_assoc}
use Rattle.pgp_compact.proofs.Common.{Bool, Entry, GroupLog, HashMap, Info, IsGreatestOf, List, LogEntry, None, Number, Opening, Option, PgId, Report, Some, Span, [], any-same, ap, ap₂, arith, cases_Bool, clean_in, clean_spans, epoch, false, filter, find, flat_map, get_or, group_history, group_in, group_with, has_number, incs_of, infos, infos_in, infos_of, is_clean_from, is_same_group, is_same_member, is_same_number, is_same_opening, is_same_sender, is_in_span, length, les, list_any, list_any-append, map, map_more, map_some, nat_eq, nat_le, nat_tests, not, write_number, numbers, opening_at, opening_in, option_and_then, option_map, option_map_or, reaches, refl, replaces, replaces_number, same_group, sender_of, sent, told_opening, starts_as_late, sym, take, tells_last_clean, tells_last_of, true, within, written, ℕ, ◌&&◌, ◌++◌, ◌+◌, ◌<◌, ◌∙◌, ◌∷◌, ◌≡◌, map_none}
use Rattle.pgp_compact.proofs.IntervalLemmas.{spans-apart}
use Rattle.pgp_compact.proofs.SpanLemmas.{any-holds, same-opening}

pub senders-are : (info : Info) (xs : List Info)
    → reaches is_same_sender (map sent xs) (sender_of info) info.stamp ≡ list_any (replaces info) (filter (λ other. is_same_group other.pg info.pg) xs)
senders-are info [] = refl
senders-are info (other ∷ xs) = grind (arith, nat_tests, senders-are info xs)

pub starts-are : (info : Info) (xs : List Info)
    → reaches is_same_group (map told_opening xs) info.pg info.history_les ≡ list_any (starts_as_late info) (filter (λ other. is_same_group other.pg info.pg) xs)
starts-are info [] = refl
starts-are info (other ∷ xs) = grind (arith, nat_tests, starts-are info xs)

abbrev opens_as : PgId → ℕ → ℕ → Opening × ℕ → Bool
opens_as pg first epoch it = is_same_opening (opening_at pg first) it.0 && nat_le epoch it.1

-- whether a clean epoch is noted for the interval that opens then
noted-as : (pg other : PgId) (first epoch clean : ℕ) (found : Option ℕ)
    → list_any (opens_as pg first epoch) (option_map_or (λ f. (opening_at other f, clean) ∷ []) found [])
    ≡ (is_same_group other pg && (option_map_or (λ f. nat_eq first f) found false && nat_le epoch clean))
noted-as pg other first epoch clean None = grind (arith, nat_tests)
noted-as pg other first epoch clean (Some f) = grind (arith, nat_tests)

-- an epoch of the interval opens as it does, and no other
opens-here : (g : GroupLog) (epoch clean : ℕ) (span : Span) → find (is_in_span clean) (clean_spans g) ≡ Some span → option_map_or (λ f. nat_eq span.first f) (opening_in g epoch) false ≡ is_in_span epoch span
opens-here g epoch clean span found =
    mapped-or (λ (s : Span). s.first) (nat_eq span.first) (find (is_in_span epoch) (clean_spans g))
    ∙ same-opening g.history.first clean epoch (clean_spans g) span (spans-apart g.history (les g)) found
  where
    mapped-or : {X Y : Type 0} (f : X → Y) (test : Y → Bool) (o : Option X) → option_map_or test (option_map f o) false ≡ option_map_or (λ x. test (f x)) o false
    mapped-or f test None = refl
    mapped-or f test (Some x) = refl

pub cleans-are : (log : List Entry) (pg : PgId) (g : GroupLog) (clean : ℕ) (span : Span) → group_in log pg ≡ Some g → find (is_in_span clean) (clean_spans g) ≡ Some span → (epoch : ℕ) (xs : List Info)
    → reaches is_same_opening (flat_map (clean_in log) xs) (opening_at pg span.first) epoch ≡ list_any (is_clean_from span epoch) (filter (λ other. is_same_group other.pg pg) xs)
cleans-are log pg g clean span there held epoch [] = refl
cleans-are log pg g clean span there held epoch (other ∷ xs) =
    let found : Option ℕ = option_and_then (λ k. opening_in k other.last_epoch_clean) (group_in log other.pg) in
    let here : is_same_group other.pg pg ≡ true → option_map_or (λ f. nat_eq span.first f) found false ≡ is_in_span other.last_epoch_clean span =
    λ same. rw (same_group other.pg pg same, there) (opens-here g other.last_epoch_clean clean span held) in
    let one = noted-as pg other.pg span.first epoch other.last_epoch_clean found in
    let rest = cleans-are log pg g clean span there held epoch xs in
    grind (arith, cases_Bool (is_same_group other.pg pg), one, here, rest, list_any-append (opens_as pg span.first epoch) (clean_in log other) (flat_map (clean_in log) xs))

-- whether an info tells of the last clean epoch of the interval that holds that epoch
tells-clean : (g : GroupLog) (later : List Info) (info : Info) → tells_last_clean g later info ≡ option_map_or
    (λ span. not (list_any (is_clean_from span (info.last_epoch_clean + 1)) (infos g)) && not (list_any (is_clean_from span info.last_epoch_clean) later))
    (find (is_in_span info.last_epoch_clean) (clean_spans g)) false
tells-clean g later info =
    let test : Span → Bool = λ span. not (list_any (is_clean_from span (info.last_epoch_clean + 1)) (infos g)) && not (list_any (is_clean_from span info.last_epoch_clean) later) in
    any-same (tells_last_of g later info) (λ span. is_in_span info.last_epoch_clean span && test span) (clean_spans g)
    (λ span. and_assoc (is_in_span info.last_epoch_clean span) (not (list_any (is_clean_from span (info.last_epoch_clean + 1)) (infos g))) (not (list_any (is_clean_from span info.last_epoch_clean) later)))
    ∙ any-holds g.history.first info.last_epoch_clean test (clean_spans g) (spans-apart g.history (les g))

pub tells-none : (g : GroupLog) (later : List Info) (info : Info) → opening_in g info.last_epoch_clean ≡ None → tells_last_clean g later info ≡ false
tells-none g later info none =
    let found : find (is_in_span info.last_epoch_clean) (clean_spans g) ≡ None = map_none (λ (s : Span). s.first) _ none in
    tells-clean g later info ∙ ap (λ (o : Option Span). option_map_or
    (λ span. not (list_any (is_clean_from span (info.last_epoch_clean + 1)) (infos g)) && not (list_any (is_clean_from span info.last_epoch_clean) later)) o false) found

-- by what is kept of all infos and of the later ones
pub tells-some : (log later : List Entry) (g : GroupLog) (info : Info) (first : ℕ) → group_in log info.pg ≡ Some g → opening_in g info.last_epoch_clean ≡ Some first
    → tells_last_clean g (infos_in info.pg later) info
    ≡ (not (reaches is_same_opening (flat_map (clean_in log) (infos_of log)) (opening_at info.pg first) (info.last_epoch_clean + 1))
    && not (reaches is_same_opening (flat_map (clean_in log) (infos_of later)) (opening_at info.pg first) info.last_epoch_clean))
tells-some log later g info first there opened =
    let n : ℕ = info.last_epoch_clean in
    let m = map_some (λ (s : Span). s.first) (find (is_in_span n) (clean_spans g)) first opened in
    let span : Span = m.0 in
    let h = map_some (group_with log info.pg) (group_history (incs_of log) info.pg) g there in
    let told : infos_in info.pg log ≡ infos g = ap infos h.2 in
    let all : reaches is_same_opening (flat_map (clean_in log) (infos_of log)) (opening_at info.pg first) (n + 1) ≡ list_any (is_clean_from span (n + 1)) (infos g) =
    ap (λ (k : ℕ). reaches is_same_opening (flat_map (clean_in log) (infos_of log)) (opening_at info.pg k) (n + 1)) (sym m.2)
    ∙ cleans-are log info.pg g n span there m.1 (n + 1) (infos_of log) ∙ ap (list_any (is_clean_from span (n + 1))) told in
    let some : reaches is_same_opening (flat_map (clean_in log) (infos_of later)) (opening_at info.pg first) n ≡ list_any (is_clean_from span n) (infos_in info.pg later) =
    ap (λ (k : ℕ). reaches is_same_opening (flat_map (clean_in log) (infos_of later)) (opening_at info.pg k) n) (sym m.2)
    ∙ cleans-are log info.pg g n span there m.1 n (infos_of later) in
    tells-clean g (infos_in info.pg later) info
    ∙ ap (λ (o : Option Span). option_map_or (λ s. not (list_any (is_clean_from s (n + 1)) (infos g)) && not (list_any (is_clean_from s n) (infos_in info.pg later))) o false) m.1
    ∙ sym (ap₂ (λ (a b : Bool). not a && not b) all some)

abbrev numbered_as : Report → ℕ → Number × ℕ → Bool
numbered_as report v it = is_same_number (write_number report v) it.0 && nat_le report.stamp it.1

number-in : (report : Report) (v : ℕ) (other : Report) (entries : List LogEntry)
    → list_any (numbered_as report v) (map (written other) entries) ≡ (is_same_group other.pg report.pg && ((is_same_member other.member report.member && nat_le report.stamp other.stamp) && has_number v entries))
number-in report v other [] = grind arith
number-in report v other (entry ∷ entries) = grind (arith, nat_tests, number-in report v other entries)

pub numbers-are : (report : Report) (v : ℕ) (xs : List Report)
    → reaches is_same_number (flat_map numbers xs) (write_number report v) report.stamp ≡ list_any (replaces_number report v) (filter (λ other. is_same_group other.pg report.pg) xs)
numbers-are report v [] = refl
numbers-are report v (other ∷ xs) = grind (arith, list_any-append, number-in report v other other.log, numbers-are report v xs)

-- one more at the end of the newest
pub at-end : {K : Type 0} (same : K → K → Bool) (before rest : List (K × ℕ)) (it : K × ℕ) (key : K) (number : ℕ)
    → reaches same (it ∷ before ++ rest) key number ≡ reaches same ((before ++ it ∷ []) ++ rest) key number
at-end {K = K} same [] rest it key number = refl
at-end {K = K} same (first ∷ before) rest it key number = grind (arith, nat_tests, at-end same before rest it key number)

pub noted-next : {X K S : Type 0} (same : K → K → Bool) (note : X → K × ℕ) (xs : List X) (i : ℕ) (x : X) (rest : List (K × ℕ)) (table : HashMap K ℕ S) → i < length xs → x ≡ get_or xs i x
    → IsGreatestOf same (note x ∷ map note (take i xs) ++ rest) table → IsGreatestOf same (map note (take (i + 1) xs) ++ rest) table
noted-next {X = X} {K = K} same note xs i x rest table within item noted = λ key number.
    grind (arith, noted key number, at-end same (map note (take i xs)) rest (note x) key number, map_more note xs i x within)

-- Logs that agree go on to, whatever entries follow of which each incremental was checked when it came.
use Rattle.pgp_group.proofs.Common.{◌≡◌, ◌≢◌, List, [], ◌∷◌, ◌++◌, Bool, true, false, ◌||◌, Option, Some, None, nat_le, length, refl, ap, sym, ◌∙◌, subst, arith, nat_tests, if◌then◌else◌, option_or, list_any, list_any-append, append_assoc, append-nil, filter_map-append, length-append, are_checked, map_fault, then_with, inc_of, incs_of, front-checked, last-checked, Entry, Incremental}
use Rattle.pgp_ids.specs.declared.refusal.Refusal.{Refusal}
use Rattle.pgp_ids.specs.declared.refusal.Refusal.TheVariants as refusal
use Rattle.pgp_map.proofs.CheckedLemmas.{checked-more}
use Rattle.pgp_log.proofs.LogLemmas.{front-legal, legal-checked, legal-last, legal-snoc}
use Rattle.pgp_log.proofs.TakeLemmas.{incs-inc, incs-other}
use Rattle.pgp_log.specs.Fits.{entry_fault, fits, full_fault, is_close, is_closed}
use Rattle.pgp_log.specs.Log.{is_legal}
use Rattle.pgp_join.specs.Alike.{AgreeOn, AreAlike}
use Rattle.pgp_join.proofs.MapLemmas.{fault-alike}
use Rattle.pgp_join.proofs.StepLemmas.{faults-alike, more-agree}

-- ---- incrementals that were checked

-- those of a log with one entry more
record IsCheckedWith (log : List Entry) (new : Entry) : Type 0 where
  before : are_checked (incs_of log) ≡ true
  fine : (inc : Incremental) → inc_of new ≡ Some inc → map_fault (incs_of log) inc ≡ None

checked-with : (log : List Entry) (new : Entry) → are_checked (incs_of (log ++ new ∷ [])) ≡ true → IsCheckedWith log new
checked-with log new checked = by (inc_of new) refl where
  by : (brings : Option Incremental) → inc_of new ≡ brings → IsCheckedWith log new
  by None none = record {
    before = ap are_checked (sym (incs-other log new none)) ∙ checked;
    fine = λ inc some. let no : None ≡ Some inc = sym none ∙ some in absurd cc;
  }
  by (Some it) some =
      let whole : are_checked (then_with (incs_of log) it) ≡ true = ap are_checked (sym (incs-inc log new it some)) ∙ checked in
      record {
        before = front-checked (incs_of log) (it ∷ []) whole;
        fine = λ inc is. let same : Some it ≡ Some inc = sym some ∙ is in let one : it ≡ inc = cc in subst (λ (i : Incremental). map_fault (incs_of log) i ≡ None) one (last-checked (incs_of log) it whole);
      }

with-checked : (log : List Entry) (new : Entry) → are_checked (incs_of log) ≡ true → ((inc : Incremental) → inc_of new ≡ Some inc → map_fault (incs_of log) inc ≡ None) → are_checked (incs_of (log ++ new ∷ [])) ≡ true
with-checked log new checked fine = by (inc_of new) refl where
  by : (brings : Option Incremental) → inc_of new ≡ brings → are_checked (incs_of (log ++ new ∷ [])) ≡ true
  by None none = ap are_checked (incs-other log new none) ∙ checked
  by (Some inc) some = ap are_checked (incs-inc log new inc some) ∙ checked-more (incs_of log) inc checked (fine inc some)

front : (log more : List Entry) → are_checked (incs_of (log ++ more)) ≡ true → are_checked (incs_of log) ≡ true
front log more checked = front-checked (incs_of log) (incs_of more) (ap are_checked (sym (filter_map-append inc_of log more)) ∙ checked)

-- ---- what follows

-- they agree, and the incrementals of both were checked
pub record Go (log other : List Entry) : Type 0 where
  pub agree : AgreeOn log other
  pub checked : are_checked (incs_of log) ≡ true
  pub checked' : are_checked (incs_of other) ≡ true

one-more : (log other : List Entry) (new : Entry) → Go log other → ((inc : Incremental) → inc_of new ≡ Some inc → map_fault (incs_of log) inc ≡ None) → Go (log ++ new ∷ []) (other ++ new ∷ [])
one-more log other new go fine = record {
  agree = more-agree log other new go.agree go.checked go.checked' fine;
  checked = with-checked log new go.checked fine;
  checked' = with-checked other new go.checked' (λ inc some. fault-alike (incs_of log) (incs_of other) go.agree.maps_are inc go.checked go.checked' ∙ fine inc some);
}

split-both : (log other : List Entry) (new : Entry) (more : List Entry) → Go ((log ++ new ∷ []) ++ more) ((other ++ new ∷ []) ++ more) → Go (log ++ new ∷ more) (other ++ new ∷ more)
split-both log other new more go = rw (append_assoc log (new ∷ []) more, append_assoc other (new ∷ []) more) at go

-- by the first log
pub follows : (more log other : List Entry) → Go log other → are_checked (incs_of (log ++ more)) ≡ true → Go (log ++ more) (other ++ more)
follows [] log other go checked = rw (append-nil log, append-nil other) go
follows (new ∷ more) log other go checked =
    let whole = ap (λ (l : List Entry). are_checked (incs_of l)) (append_assoc log (new ∷ []) more) ∙ checked in
    let step = checked-with log new (front (log ++ new ∷ []) more whole) in
    split-both log other new more (follows more (log ++ new ∷ []) (other ++ new ∷ []) (one-more log other new go step.fine) whole)

-- by the other one
pub follows-other : (more log other : List Entry) → Go log other → are_checked (incs_of (other ++ more)) ≡ true → Go (log ++ more) (other ++ more)
follows-other [] log other go checked = rw (append-nil log, append-nil other) go
follows-other (new ∷ more) log other go checked =
    let whole = ap (λ (l : List Entry). are_checked (incs_of l)) (append_assoc other (new ∷ []) more) ∙ checked in
    let step = checked-with other new (front (other ++ new ∷ []) more whole) in
    split-both log other new more (follows-other more (log ++ new ∷ []) (other ++ new ∷ [])
    (one-more log other new go (λ inc some. sym (fault-alike (incs_of log) (incs_of other) go.agree.maps_are inc go.checked go.checked') ∙ step.fine inc some)) whole)

-- ---- legal logs

pub alike-go : (log other : List Entry) → AreAlike log other → Go log other
alike-go log other are = record { agree = are.agree; checked = legal-checked log are.legal; checked' = legal-checked other are.other_legal }

pub faults-later : (log other more : List Entry) (new : Entry) → AreAlike log other → are_checked (incs_of (log ++ more)) ≡ true → entry_fault (other ++ more) new ≡ entry_fault (log ++ more) new
faults-later log other more new are checked =
    let go = follows more log other (alike-go log other are) checked in
    faults-alike (log ++ more) (other ++ more) go.agree go.checked go.checked' new

-- the same is refused, but where the first log is full
refused-by : (closed close : Bool) (own : Option Refusal) (long short : Bool) → (long ≡ false → short ≡ false)
    → (if closed then Some refusal.Closed else option_or own (if close then None else (if long then Some refusal.LogFull else None))) ≢ Some refusal.LogFull
    → (if closed then Some refusal.Closed else option_or own (if close then None else (if short then Some refusal.LogFull else None))) ≡ (if closed then Some refusal.Closed else option_or own (if close then None else (if long then Some refusal.LogFull else None)))
refused-by true close own long short room other = refl
refused-by false close (Some why) long short room other = refl
refused-by false true None long short room other = refl
refused-by false false None true short room other = absurd (other refl)
refused-by false false None false short room other = rw (room refl) refl

pub fits-alike : (log other : List Entry) (new : Entry) → AreAlike log other → fits log new ≢ Some refusal.LogFull → fits other new ≡ fits log new
fits-alike log other new are not_full =
    let faults = faults-alike log other are.agree (legal-checked log are.legal) (legal-checked other are.other_legal) new in
    let room : nat_le 65535 (length log) ≡ false → nat_le 65535 (length other) ≡ false = λ short. grind (arith, nat_tests, are.no_longer) in
    (λ i. if are.closed_is i then Some refusal.Closed else option_or (faults i) (full_fault other new))
    ∙ refused-by (is_closed log) (is_close new) (entry_fault log new) (nat_le 65535 (length log)) (nat_le 65535 (length other)) room not_full

-- ---- they stay alike while the first takes entries

more-alike : (log other : List Entry) (new : Entry) → AreAlike log other → fits log new ≡ None → AreAlike (log ++ new ∷ []) (other ++ new ∷ [])
more-alike log other new are fit =
    let legal = legal-snoc log new are.legal fit in
    let taken : fits other new ≡ None = fits-alike log other new are (λ full. let no : None ≡ Some refusal.LogFull = sym fit ∙ full in absurd cc) ∙ fit in
    let step = checked-with log new (legal-checked (log ++ new ∷ []) legal) in
    record {
      legal = legal;
      other_legal = legal-snoc other new are.other_legal taken;
      closed_is = list_any-append is_close other (new ∷ []) ∙ ap (λ (b : Bool). b || list_any is_close (new ∷ [])) are.closed_is ∙ sym (list_any-append is_close log (new ∷ []));
      no_longer = omega (arith, are.no_longer, length-append other (new ∷ []), length-append log (new ∷ []));
      agree = more-agree log other new are.agree (legal-checked log are.legal) (legal-checked other are.other_legal) step.fine;
    }

pub later-alike : (more log other : List Entry) → AreAlike log other → is_legal (log ++ more) ≡ true → AreAlike (log ++ more) (other ++ more)
later-alike [] log other are legal = rw (append-nil log, append-nil other) are
later-alike (new ∷ more) log other are legal =
    let split : (log ++ new ∷ []) ++ more ≡ log ++ new ∷ more = append_assoc log (new ∷ []) more in
    let split' : (other ++ new ∷ []) ++ more ≡ other ++ new ∷ more = append_assoc other (new ∷ []) more in
    let legal' : is_legal ((log ++ new ∷ []) ++ more) ≡ true = ap is_legal split ∙ legal in
    let fit : fits log new ≡ None = legal-last log new (front-legal (log ++ new ∷ []) more legal') in
    rw (split, split') at (later-alike more (log ++ new ∷ []) (other ++ new ∷ []) (more-alike log other new are fit) legal')

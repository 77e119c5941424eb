-- Runs of epochs and of writes in words.
use Rattle.std.specs.Prelude.{ℕ, ◌+◌, ◌==◌, List, [], ◌∷◌, ◌++◌, Bool, false, nat_lt, length, take, map, fold, codes, decimal, if◌then◌else◌}
use Rattle.pgp_reasons.specs.declared.blocking.Blocking.{Blocking}
use Rattle.pgp_reasons.specs.declared.fates.IntervalNow.{IntervalNow}
use Rattle.pgp_reasons.specs.declared.gap.Gap.{Gap}
use Rattle.pgp_group_words.specs.Text.{Text, joined, listed, listed_with}
use Rattle.pgp_group_words.specs.Names.{cluster_epoch}
use Rattle.pgp_group_words.specs.declared.offset.EpochOffset.{EpochOffset}
use Rattle.pgp_group_words.specs.declared.spans.Span.{Span}

abbrev pub run_between : ℕ → ℕ → Span
run_between first last = record { first = first; last = last }

-- a number alone, or the first and the last of a run
abbrev pub span_name : Span → Text
span_name run = if run.first == run.last then decimal run.first else joined (decimal run.first ∷ codes " to " ∷ decimal run.last ∷ [])

-- the epochs of an interval, as they are reported
abbrev pub epochs_of : EpochOffset → IntervalNow → Span
epochs_of offset interval = run_between (cluster_epoch offset interval.first) (cluster_epoch offset interval.last)

-- those of an interval that blocks
abbrev pub epochs_blocked : EpochOffset → Blocking → Span
epochs_blocked offset blocking = epochs_of offset blocking.interval

-- runs with one behind them: the last is longer by it where it follows upon that
abbrev pub then_run : List Span → Span → List Span
then_run [] next = next ∷ []
then_run (run ∷ []) next = if next.first == run.last + 1 then run_between run.first next.last ∷ [] else run ∷ next ∷ []
then_run (run ∷ other ∷ runs) next = run ∷ then_run (other ∷ runs) next

-- the epochs of intervals in ascending order; those that follow one upon another are one run
unfoldable pub runs_of_epochs : EpochOffset → List Blocking → List Span
runs_of_epochs offset intervals = fold then_run [] (map (epochs_blocked offset) intervals)

-- the writes that a log lacks
abbrev pub run_of_writes : Gap → Span
run_of_writes gap = run_between gap.first gap.last

-- the runs are one number alone
abbrev pub is_single : List Span → Bool
is_single [] = false
is_single (run ∷ []) = run.first == run.last
is_single (run ∷ other ∷ runs) = false

-- how many runs a sentence names at most
abbrev pub most_named : ℕ
most_named = 5

-- the runs by their numbers; where there are many, the first are named
abbrev pub numbers_name : List Span → Text
numbers_name runs =
    if nat_lt most_named (length runs)
    then listed_with (codes ", ") (map span_name (take most_named runs)) ++ codes ", and later ones"
    else listed (map span_name runs)

-- runs of this noun in a sentence: epoch 7, epochs 1 to 3 and 5
unfoldable pub runs_name : Text → List Span → Text
runs_name noun runs = joined (noun ∷ (if is_single runs then codes " " else codes "s ") ∷ numbers_name runs ∷ [])

-- the epochs of intervals in a sentence
abbrev pub epochs_name : EpochOffset → List Blocking → Text
epochs_name offset intervals = runs_name (codes "epoch") (runs_of_epochs offset intervals)

-- the epochs of an interval in a sentence
abbrev pub interval_epochs : EpochOffset → IntervalNow → Text
interval_epochs offset interval = runs_name (codes "epoch") (epochs_of offset interval ∷ [])

-- the writes that a log lacks in a sentence
abbrev pub writes_name : List Gap → Text
writes_name gaps = runs_name (codes "write") (map run_of_writes gaps)

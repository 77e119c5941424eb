-- An intake, and what a submit is answered.
use Rattle.std.specs.Prelude.{ℕ, ◌≡◌, ◌≢◌, ◌<◌, ◌⊎◌, List, [], ◌∷◌, ◌++◌, length, true, Some, None}
use Rattle.logbook.specs.Pages.{Book}
use Rattle.pgp_ids.specs.declared.refusal.Refusal.{Refusal}
use Rattle.pgp_ids.specs.declared.refusal.Refusal.TheVariants as refusal
use Rattle.pgp_ids.specs.declared.entry.Entry.{Entry}
use Rattle.pgp_log.specs.Fits.{fits}
use Rattle.pgp_log.specs.Judge.{MapMayLack}
use Rattle.pgp_log.specs.Log.{is_legal}
use Rattle.pgp_feed.specs.declared.receipt.Receipt.{Receipt}
use Rattle.pgp_feed.specs.Receipts.{entries_of, Holds}
use Rattle.pgp_engine.specs.declared.fault.SubmitFault.{SubmitFault}
use Rattle.pgp_engine.specs.declared.fault.SubmitFault.TheVariants.{Refused, Memory, NoReader}
use Rattle.pgp_engine.specs.Fronts.{Names}

-- an intake: the log that was told so far, and how many entries of it the judge has taken
pub record ToldLog : Type 0 where
  pub log : List Entry
  pub judged : ℕ

-- the judge has to take some of the log
abbrev pub HasToJudge : ToldLog → Type 0
HasToJudge told = told.judged < length told.log

-- the entry doesn't fit the log, for this reason, which is another than out of memory; and the receipt names that log
pub record IsRefused (feed : Book) (log : List Entry) (entry : Entry) (why : Refusal) (at : Receipt) : Type 0 where
  pub named : Names feed log at
  pub refused : fits log entry ≡ Some why
  pub other : why ≢ refusal.Memory

-- why a log may not have been made longer
abbrev pub MayRefuse : Book → List Entry → Entry → SubmitFault → Type 0
MayRefuse feed log entry (Refused why at) = IsRefused feed log entry why at
MayRefuse feed log entry Memory = Unit {0}
MayRefuse feed log entry NoReader = Unit {0}

-- for what a submit may find no memory: the judge has to take some of the log, the map may lack it to look at an incremental,
-- or the entry fits
abbrev pub MayWant : ToldLog → Entry → Type 0
MayWant told entry = HasToJudge told ⊎ (MapMayLack told.log entry ⊎ (fits told.log entry ≡ None))

-- the receipt names a longer front than the caller's, which it holds; its last entry is the one that was submitted, and it is
-- legal
pub record IsSubmitted (q : Receipt) (entry : Entry) (r : Receipt) : Type 0 where
  pub holds : Holds r q
  pub longer : length (entries_of q) < length (entries_of r)
  pub before : List Entry
  pub last : entries_of r ≡ before ++ entry ∷ []
  pub legal : is_legal (entries_of r) ≡ true

-- the receipt names a legal front that holds the caller's, and which the entry doesn't fit for this reason
pub record IsRefusedAt (q : Receipt) (entry : Entry) (why : Refusal) (at : Receipt) : Type 0 where
  pub holds : Holds at q
  pub refused : fits (entries_of at) entry ≡ Some why
  pub legal : is_legal (entries_of at) ≡ true

-- why a submit may have failed
abbrev pub MayFailToSubmit : Receipt → Entry → SubmitFault → Type 0
MayFailToSubmit q entry (Refused why at) = IsRefusedAt q entry why at
MayFailToSubmit q entry Memory = Unit {0}
MayFailToSubmit q entry NoReader = Unit {0}

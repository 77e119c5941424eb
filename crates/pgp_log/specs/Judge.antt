-- What a judge keeps of the log whose next entry it judges.
use Rattle.std.specs.Prelude.{◌≡◌, List, length, true, Some, None}
use Rattle.pgp_ids.specs.declared.entry.Entry.{Entry}
use Rattle.pgp_ids.specs.declared.incremental.Incremental.{Incremental}
use Rattle.pgp_map.specs.MapOf.{IsMapOf}
use Rattle.pgp_map.specs.Memory.{MayLackMemory}
use Rattle.pgp_group.specs.Entries.{inc_of, incs_of}
use Rattle.pgp_log.specs.Fits.{is_closed, fits}
use Rattle.pgp_log.specs.Log.{is_legal}
use Rattle.pgp_log.specs.declared.judge.Judge.{Judge}

-- the judge has taken the entries of this legal log
pub record IsJudgeOf (log : List Entry) (judge : Judge) : Type 0 where
  pub legal : is_legal log ≡ true
  pub map_is : IsMapOf (incs_of log) judge.map
  pub count_is : judge.count ≡ length log
  pub closed_is : judge.closed ≡ is_closed log

-- this holds of each log of which it is the judge
abbrev pub OfItsLog : Judge → (List Entry → Type 0) → Type 0
OfItsLog judge P = (log : List Entry) → IsJudgeOf log judge → P log

-- some log of which it is the judge takes the entry
pub record CanTake (judge : Judge) (new : Entry) : Type 0 where
  pub log : List Entry
  pub is : IsJudgeOf log judge
  pub fits : fits log new ≡ None

-- the entry is an incremental, and the map that the log makes may lack memory to look at it
pub record MapMayLack (log : List Entry) (entry : Entry) : Type 0 where
  pub inc : Incremental
  pub is_inc : inc_of entry ≡ Some inc
  pub lacks : MayLackMemory (incs_of log) inc

-- The words for changes, peer states and verdicts in lines and answers.
use Rattle.std.specs.Prelude.{ℕ, List, codes}
use Rattle.pgp_ids.specs.declared.log_entry.Change.{Change}
use Rattle.pgp_ids.specs.declared.log_entry.Change.TheVariants.{Modify, Delete}
use Rattle.pgp_ids.specs.declared.peer.PeerState.{PeerState}
use Rattle.pgp_ids.specs.declared.peer.PeerState.TheVariants.{Missing, Backfill, Diverged}
use Rattle.pgp_ids.specs.declared.verdict.Verdict.{Verdict}
use Rattle.pgp_ids.specs.declared.verdict.Verdict.TheVariants.{NoPrimary, Down, Waiting, Incomplete, Short, NeedLog, NeedUpThru, Serve}

-- the word for a change in lines
abbrev pub change_name : Change → List ℕ
change_name Modify = codes "modify"
change_name Delete = codes "delete"

-- the word for a peer state in answers
abbrev pub peer_state_name : PeerState → List ℕ
peer_state_name (Missing objects) = codes "missing"
peer_state_name Backfill = codes "backfill"
peer_state_name Diverged = codes "diverged"

-- the name of a verdict in answers
abbrev pub verdict_name : Verdict → List ℕ
verdict_name NoPrimary = codes "NoPrimary"
verdict_name Down = codes "Down"
verdict_name Waiting = codes "Waiting"
verdict_name Incomplete = codes "Incomplete"
verdict_name Short = codes "Short"
verdict_name NeedLog = codes "NeedLog"
verdict_name NeedUpThru = codes "NeedUpThru"
verdict_name Serve = codes "Serve"

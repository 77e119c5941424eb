-- What an ask is answered.
use Rattle.std.specs.Prelude.{◌≡◌, Some, true, false}
use Rattle.pgp_ids.specs.declared.pg_id.PgId.{PgId}
use Rattle.pgp_map.specs.Pools.{has_group}
use Rattle.pgp_group.specs.Entries.{incs_of}
use Rattle.pgp_group.specs.View.{scratch}
use Rattle.pgp_log.specs.Log.{is_legal}
use Rattle.pgp_feed.specs.declared.receipt.Receipt.{Receipt}
use Rattle.pgp_feed.specs.Receipts.{entries_of, Holds}
use Rattle.pgp_engine.specs.declared.answer.Answer.{Answer}
use Rattle.pgp_engine.specs.declared.fault.AskFault.{AskFault}
use Rattle.pgp_engine.specs.declared.fault.AskFault.TheVariants.{UnknownGroup, Memory, NoReader}

-- the answer's receipt names a legal front of the log that holds all that the caller was told of, and its view is, field for
-- field, what the definitions give from scratch on that front
pub record IsAnswer (q : Receipt) (pg : PgId) (answer : Answer) : Type 0 where
  pub holds : Holds answer.at q
  pub legal : is_legal (entries_of answer.at) ≡ true
  pub view_is : scratch (entries_of answer.at) pg ≡ Some answer.view

-- the receipt names such a front, and the map of that front has no such group
pub record IsUnknown (q : Receipt) (pg : PgId) (at : Receipt) : Type 0 where
  pub holds : Holds at q
  pub legal : is_legal (entries_of at) ≡ true
  pub absent : has_group (incs_of (entries_of at)) pg ≡ false

-- why an ask may have failed
abbrev pub MayFailToAnswer : Receipt → PgId → AskFault → Type 0
MayFailToAnswer q pg (UnknownGroup at) = IsUnknown q pg at
MayFailToAnswer q pg Memory = Unit {0}
MayFailToAnswer q pg NoReader = Unit {0}

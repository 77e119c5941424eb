-- What there is to say of a group by a log.
use Rattle.std.specs.Prelude.{◌≡◌, List, Some}
use Rattle.pgp_ids.specs.declared.entry.Entry.{Entry}
use Rattle.pgp_ids.specs.declared.pg_id.PgId.{PgId}
use Rattle.pgp_map.specs.Pools.{pool}
use Rattle.pgp_group.specs.Entries.{incs_of}
use Rattle.pgp_group.specs.GroupLog.{GroupLog, group_in}
use Rattle.pgp_group.specs.View.{scratch}
use Rattle.pgp_reasons.specs.Reasons.{AreReasons}
use Rattle.pgp_group_words.specs.declared.explanation.Explanation.{Explanation}

-- This is what there is to say of the group: its view from scratch, the reasons for that, and its pool by the last map.
pub record IsExplainedBy (log : List Entry) (pg : PgId) (explanation : Explanation) : Type 0 where
  pub pg_is : explanation.pg ≡ pg
  pub view_is : scratch log pg ≡ Some explanation.view
  pub group : GroupLog
  pub there : group_in log pg ≡ Some group
  pub reasons_are : AreReasons group explanation.reasons
  pub pool_is : pool (incs_of log) pg.pool ≡ Some explanation.pool

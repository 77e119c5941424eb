-- What is kept of the infos of a group while more come (this project's own choice).
use Rattle.std.specs.Prelude.{◌≡◌, ◌≤◌, [], ◌∷◌, ◌++◌, false, take, filter, Contains}
use Rattle.pgp_ids.specs.declared.report.Info.{Info}
use Rattle.pgp_info.specs.Best.{HasDistinctMembers}
use Rattle.pgp_map.specs.Map.{epoch}
use Rattle.pgp_group.specs.GroupLog.{GroupLog, incs, infos}
use Rattle.pgp_group.specs.Heard.{counts, last_of_each_member, les}
use Rattle.pgp_group.specs.kept.InboxOf.{IsInboxOf}
use Rattle.pgp_group.specs.declared.infos.Infos.{Infos}

-- all infos are kept, with the last epoch in which the group is known to have begun to serve, and some infos of distinct
-- members as heard. Where each was sent in this epoch or before, those are kept as heard of which the ones that count are
-- the last of their members, of the infos that were looked at
pub record KeepsInfos (g : GroupLog) (kept : Infos) : Type 0 where
  pub inbox_is : IsInboxOf (λ info. info.stamp) (infos g) (epoch (incs g)) kept.inbox
  pub les_is : kept.les ≡ les g
  pub distinct : HasDistinctMembers kept.heard.infos
  pub heard_sent : kept.inbox.ahead ≡ false → (info : Info) → Contains kept.heard.infos info → info.stamp ≤ epoch (incs g)
  pub heard_are : kept.inbox.ahead ≡ false → last_of_each_member (filter (counts g) (take kept.inbox.seen (infos g))) ≡ filter (counts g) kept.heard.infos

-- the group with one info more, and no other map
pub record TakesInfo (g : GroupLog) (info : Info) (after : GroupLog) : Type 0 where
  pub infos_are : infos after ≡ infos g ++ info ∷ []
  pub incs_are : incs after ≡ incs g
  pub history_is : after.history ≡ g.history

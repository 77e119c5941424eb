-- How an info that C tells ends. This project's own choice.
use Rattle.std.specs.Prelude.{◌≡◌, ℕ, ◌≤◌, Option, Some, None, nat_eq}
use Rattle.pgp_ids.specs.declared.entry.Entry.TheVariants as entry
use Rattle.pgp_ids.specs.declared.report.Info.{Info}
use Rattle.pgp_core.specs.Session.{LogAndAnswer}
use Rattle.pgp_c.specs.Ask.{AreOfGroup, group}
use Rattle.pgp_c.specs.Member.{AreOfMember, member}
use Rattle.pgp_c.specs.Status.{status_number}
use Rattle.pgp_c.specs.Submit.{TellsEntry}
use Rattle.pgp_c.specs.declared.info.PgpInfo.{PgpInfo}
use Rattle.pgp_c.specs.declared.status.Status.TheVariants.{NotOpen, BadArgument}

-- the numbers are those of an info
pub record IsInfo (info : PgpInfo) : Type 0 where
  pub of_group : AreOfGroup info.pool info.pg
  pub of_member : AreOfMember info.osd info.slot
  pub complete : info.complete ≤ 1

abbrev pub told_info : PgpInfo → Info
told_info info = record {
  pg = group info.pool info.pg;
  member = member info.osd info.slot;
  stamp = info.stamp;
  les = info.les;
  history_les = info.history_les;
  last_epoch_clean = info.last_epoch_clean;
  last_update = record { epoch = info.last_update_epoch; v = info.last_update };
  log_tail = record { epoch = info.log_tail_epoch; v = info.log_tail };
  complete = nat_eq info.complete 1;
}

-- An info was told to a session, which goes from `was` to `now`.
pub record SubmitsIn (was now : LogAndAnswer) (info : PgpInfo) (status : ℕ) : Type 0 where
  pub bad : (IsInfo info → ⊥) → (now ≡ was) × (status ≡ status_number BadArgument)
  pub good : IsInfo info → TellsEntry was now (entry.Info (told_info info)) status

-- An info was told to a session, where there is one.
abbrev pub Submits : Option LogAndAnswer → Option LogAndAnswer → PgpInfo → ℕ → Type 0
Submits None now info status = (now ≡ None) × (status ≡ status_number NotOpen)
Submits (Some was) None info status = ⊥
Submits (Some was) (Some now) info status = SubmitsIn was now info status

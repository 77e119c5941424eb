-- The objects that a member of a placement group lacks, as C reads them. This project's own choice.
use Rattle.std.specs.Prelude.{◌≡◌, ℕ, List, [], ◌∷◌, length, map, replicate, Option, Some, None, Result, Ok, Err, if◌then◌else◌}
use Rattle.pgp_ids.specs.Member.{is_same_member}
use Rattle.pgp_ids.specs.declared.entry.Entry.{Entry}
use Rattle.pgp_ids.specs.declared.member.Member.{Member}
use Rattle.pgp_ids.specs.declared.peer.MissingObject.{MissingObject}
use Rattle.pgp_ids.specs.declared.peer.PeerMissing.{PeerMissing}
use Rattle.pgp_ids.specs.declared.peer.PeerState.{PeerState}
use Rattle.pgp_ids.specs.declared.peer.PeerState.TheVariants.{Missing, Backfill, Diverged}
use Rattle.pgp_ids.specs.declared.view.View.{View}
use Rattle.pgp_core.specs.Session.{LogAndAnswer}
use Rattle.pgp_c.specs.Ask.{Gives}
use Rattle.pgp_c.specs.Exports.{put_into, put_status}
use Rattle.pgp_c.specs.Lists.{PutsNone}
use Rattle.pgp_c.specs.Member.{AreOfMember, member}
use Rattle.pgp_c.specs.Status.{status_number}
use Rattle.pgp_c.specs.declared.objects.PgpObject.{PgpObject}
use Rattle.pgp_c.specs.declared.status.Status.TheVariants.{NotOpen, BadArgument, NoList}

-- the objects that a state says are lacking, where it says them
abbrev pub lacked : PeerState → Option (List MissingObject)
lacked (Missing objects) = Some objects
lacked Backfill = None
lacked Diverged = None

-- the objects that a member lacks, where its state says them
abbrev pub objects_of : List PeerMissing → Member → Option (List MissingObject)
objects_of [] who = None
objects_of (peer ∷ peers) who = if is_same_member peer.member who then lacked peer.state else objects_of peers who

-- the bytes of a name, and zeros behind them
abbrev pub name_room : List ℕ → List ℕ
name_room name = put_into name (replicate 255 0)

abbrev pub pgp_object : MissingObject → PgpObject
pgp_object object = record {
  epoch = object.version.epoch;
  number = object.version.v;
  name_length = length object.object;
  name = name_room object.object;
}

-- the objects were put where C reads them, where they fit and there is a list of them
abbrev pub PutsObjects : Option (List MissingObject) → List PgpObject → List PgpObject → ℕ → ℕ → Type 0
PutsObjects None old new count status = PutsNone old new count status (status_number NoList)
PutsObjects (Some objects) old new count status =
    (new ≡ put_into (map pgp_object objects) old) × (count ≡ length objects) × (status ≡ status_number (put_status (map pgp_object objects) old))

-- those that a member lacks by the view were put, or nothing was, for this reason
abbrev pub PutsLacked : Result View ℕ → Member → List PgpObject → List PgpObject → ℕ → ℕ → Type 0
PutsLacked (Ok view) who old new count status = PutsObjects (objects_of view.missing who) old new count status
PutsLacked (Err why) who old new count status = PutsNone old new count status why

-- The objects that a member lacks, as the log says, were put where C reads them.
pub record ObjectsIn (log : List Entry) (pool pg osd slot : ℕ) (old new : List PgpObject) (count status : ℕ) : Type 0 where
  pub bad : (AreOfMember osd slot → ⊥) → PutsNone old new count status (status_number BadArgument)
  pub good : AreOfMember osd slot → Gives log pool pg (λ answer. PutsLacked answer (member osd slot) old new count status)

-- The objects that a member lacks, as a session says, were put where C reads them, where there is a session.
abbrev pub Objects : Option LogAndAnswer → Option LogAndAnswer → ℕ → ℕ → ℕ → ℕ → List PgpObject → List PgpObject → ℕ → ℕ → Type 0
Objects None now pool pg osd slot old new count status = (now ≡ None) × PutsNone old new count status (status_number NotOpen)
Objects (Some was) now pool pg osd slot old new count status = (now ≡ Some was) × ObjectsIn was.log pool pg osd slot old new count status

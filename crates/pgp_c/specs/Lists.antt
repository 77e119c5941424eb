-- The lists of what a log says of a placement group, as C reads them. This project's own choice.
use Rattle.std.specs.Prelude.{◌≡◌, ℕ, List, length, Option, Some, None, Result, Ok, Err, if◌then◌else◌}
use Rattle.pgp_ids.specs.declared.member.Member.{Member}
use Rattle.pgp_ids.specs.declared.past.Past.{Past}
use Rattle.pgp_ids.specs.declared.peer.PeerMissing.{PeerMissing}
use Rattle.pgp_ids.specs.declared.peer.PeerState.{PeerState}
use Rattle.pgp_ids.specs.declared.peer.PeerState.TheVariants.{Missing, Backfill, Diverged}
use Rattle.pgp_ids.specs.declared.view.View.{View}
use Rattle.pgp_core.specs.Session.{LogAndAnswer}
use Rattle.pgp_c.specs.Ask.{Gives}
use Rattle.pgp_c.specs.Exports.{put_into, put_status}
use Rattle.pgp_c.specs.Place.{device_number, sixteen}
use Rattle.pgp_c.specs.Status.{status_number}
use Rattle.pgp_c.specs.declared.lists.PgpInterval.{PgpInterval}
use Rattle.pgp_c.specs.declared.lists.PgpMember.{PgpMember}
use Rattle.pgp_c.specs.declared.lists.PgpPeer.{PgpPeer}
use Rattle.pgp_c.specs.declared.status.Status.TheVariants.{NotOpen}

abbrev pub pgp_device : ℕ → ℕ
pgp_device device = device

abbrev pub member_of : Member → PgpMember
member_of member = record { osd = member.osd; slot = member.slot }

abbrev pub interval_of : Past → PgpInterval
interval_of past = record {
  first = past.first;
  last = past.last;
  up_primary = device_number past.members.up_primary;
  acting_primary = device_number past.members.acting_primary;
  size = past.members.size;
  min_size = past.members.min_size;
  up_length = length past.members.up;
  acting_length = length past.members.acting;
  up = sixteen past.members.up;
  acting = sixteen past.members.acting;
  rw = if past.rw then 1 else 0;
}

-- how many objects a member lacks, where that is its state
abbrev pub lacking_count : PeerState → ℕ
lacking_count (Missing objects) = length objects
lacking_count Backfill = 0
lacking_count Diverged = 0

-- the number by which C knows a state
abbrev pub peer_state_number : PeerState → ℕ
peer_state_number (Missing objects) = 0
peer_state_number Backfill = 1
peer_state_number Diverged = 2

abbrev pub peer_of : PeerMissing → PgpPeer
peer_of peer = record {
  objects = lacking_count peer.state;
  osd = peer.member.osd;
  slot = peer.member.slot;
  state = peer_state_number peer.state;
}

-- nothing was put, for this reason
pub record PutsNone {C : Type 0} (old new : List C) (count status reason : ℕ) : Type 0 where
  pub room : new ≡ old
  pub none : count ≡ 0
  pub status_is : status ≡ reason

-- the list of a view was put where C reads it, where it fits, or nothing was, for this reason
abbrev pub PutsList : {C : Type 0} → Result View ℕ → (View → List C) → List C → List C → ℕ → ℕ → Type 0
PutsList (Ok view) list old new count status =
    (new ≡ put_into (list view) old) × (count ≡ length (list view)) × (status ≡ status_number (put_status (list view) old))
PutsList (Err why) list old new count status = PutsNone old new count status why

-- A list of what a session says of a group was put where C reads it, where there is a session.
abbrev pub Lists : {C : Type 0} → Option LogAndAnswer → Option LogAndAnswer → ℕ → ℕ → (View → List C) → List C → List C → ℕ → ℕ → Type 0
Lists None now pool pg list old new count status = (now ≡ None) × PutsNone old new count status (status_number NotOpen)
Lists (Some was) now pool pg list old new count status = (now ≡ Some was) × Gives was.log pool pg (λ answer. PutsList answer list old new count status)

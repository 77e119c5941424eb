-- What follows the log: it has taken the first entries of it, and takes those that come next. Here `has_taken` says of a
-- follower that it has taken the entries of a log, and no others.
use Rattle.std.specs.Prelude.{◌≡◌, ◌<◌, List, ◌++◌, length, None, true}
use Rattle.pgp_ids.specs.declared.entry.Entry.{Entry}
use Rattle.pgp_log.specs.Fits.{fits}
use Rattle.pgp_log.specs.Log.{is_legal, IsFrontOf}

-- some log that it has taken takes the entry
pub record CanTakeNext {F : Type 0} (has_taken : List Entry → F → Type 0) (follower : F) (new : Entry) : Type 0 where
  pub log : List Entry
  pub is : has_taken log follower
  pub fits : fits log new ≡ None

-- some log that it has taken goes on legally with these entries
pub record CanTakeAll {F : Type 0} (has_taken : List Entry → F → Type 0) (follower : F) (news : List Entry) : Type 0 where
  pub log : List Entry
  pub is : has_taken log follower
  pub legal : is_legal (log ++ news) ≡ true

-- it has taken the entries of a front of this log
pub record HasTakenFront {F : Type 0} (has_taken : List Entry → F → Type 0) (log : List Entry) (follower : F) : Type 0 where
  pub taken : List Entry
  pub is_front : IsFrontOf taken log
  pub is : has_taken taken follower

-- it has taken the entries of a front of this log, and no fewer than before
pub record HasTakenMore {F : Type 0} (has_taken : List Entry → F → Type 0) (before log : List Entry) (follower : F) : Type 0 where
  pub taken : List Entry
  pub no_fewer : IsFrontOf before taken
  pub is_front : IsFrontOf taken log
  pub is : has_taken taken follower

-- it has taken the entries of a front of this log, and not all
pub record HasTakenFewer {F : Type 0} (has_taken : List Entry → F → Type 0) (log : List Entry) (follower : F) : Type 0 where
  pub taken : List Entry
  pub fewer : length taken < length log
  pub is_front : IsFrontOf taken log
  pub is : has_taken taken follower

-- Small logs.
use Rattle.std.specs.Prelude.{ℕ, List, [], ◌∷◌, codes}
use Rattle.pgp_ids.specs.declared.version.Version.{Version}
use Rattle.pgp_ids.specs.declared.log_entry.Change.TheVariants.{Modify, Delete}
use Rattle.pgp_ids.specs.declared.log_entry.LogEntry.{LogEntry}
use Rattle.pgp_ids.specs.declared.peer.MissingObject.{MissingObject}
use Rattle.pgp_ids.specs.declared.report.Info.{Info}
use Rattle.pgp_ids.specs.Examples.{empty_copy}
pub use Rattle.pgp_ids.specs.Examples.{at}

abbrev pub modify_at : List ℕ → Version → LogEntry
modify_at object version = record { version = version; change = Modify; object = object }

abbrev pub delete_at : List ℕ → Version → LogEntry
delete_at object version = record { version = version; change = Delete; object = object }

abbrev pub lacks_at : List ℕ → Version → MissingObject
lacks_at object version = record { object = object; version = version }

-- the info of a complete copy whose log goes from the first version to the second
abbrev pub copy_between : Version → Version → Info
copy_between tail last = record empty_copy { stamp = 2; last_update = last; log_tail = tail }

-- the copy with the writes up to this one
abbrev pub copy_at : Version → Info
copy_at last = copy_between last last

-- a write of "a" at [1,2], and then one of "b" at [2,3]
abbrev pub two_writes : List LogEntry
two_writes = modify_at (codes "a") (at 1 2) ∷ modify_at (codes "b") (at 2 3) ∷ []

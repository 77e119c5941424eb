-- What a whole log is read by.
use Rattle.std.specs.Prelude.{◌≡◌, List, [], ◌∷◌, ◌++◌, Bool, true}
use Rattle.std.specs.List.{Contains}
use Rattle.pgp_ids.specs.declared.entry.Entry.{Entry}
use Rattle.pgp_map.specs.MapOf.{IsMapOf}
use Rattle.pgp_group.specs.Entries.{incs_of}
use Rattle.pgp_log.specs.Log.{is_legal}
use Rattle.pgp_compact.specs.Compacted.{is_needed}
use Rattle.pgp_compact.specs.kept.Courses.{AreCourses}
use Rattle.pgp_compact.specs.kept.Later.{IsLater}
use Rattle.pgp_compact.specs.declared.later.Later.{Later}
use Rattle.pgp_compact.specs.declared.whole.Whole.{Whole}

-- of a log, of which these entries were read for their maps: the last of these, and the groups that have reports
pub record HasReadFront (log front : List Entry) (whole : Whole) : Type 0 where
  pub map_is : IsMapOf (incs_of front) whole.map
  pub courses_are : AreCourses (incs_of front) log whole.courses

-- the entry comes next in a legal log
pub record CanRead (whole : Whole) (next : Entry) : Type 0 where
  pub log : List Entry
  pub front : List Entry
  pub legal : is_legal (front ++ next ∷ []) ≡ true
  pub is : HasReadFront log front whole

-- all entries of the legal log were read
pub record IsReadWhole (log : List Entry) (whole : Whole) : Type 0 where
  pub legal : is_legal log ≡ true
  pub read : HasReadFront log log whole

-- it was said of the entry of the log whether it stays, and note was taken of it beside the entries after it, of which `old` has taken note
abbrev pub IsJudged : Whole → (old new : Later) → Entry → Bool → Type 0
IsJudged whole old new entry needed =
    (log done : List Entry) → IsReadWhole log whole → IsLater log done old → Contains log entry
    → (needed ≡ is_needed log done entry) × IsLater log (entry ∷ done) new

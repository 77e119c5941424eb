-- What is kept of the groups of which a log has reports (this project's own choice).
use Rattle.std.specs.Prelude.{◌≡◌, ℕ, List, [], ◌∷◌, ◌++◌, Some, None, false, map, fold, max, slice_get}
use Rattle.std.specs.HashMap as hash
use Rattle.pgp_ids.specs.declared.entry.Entry.{Entry}
use Rattle.pgp_ids.specs.declared.incremental.Incremental.{Incremental}
use Rattle.pgp_ids.specs.declared.pg_id.PgId.{PgId}
use Rattle.pgp_map.specs.Pools.{is_same_group}
use Rattle.pgp_map.specs.declared.map.OsdMap.{OsdMap}
use Rattle.pgp_group.specs.GroupOf.{IsSilent}
use Rattle.pgp_reasons.specs.Reported.{infos_in}
use Rattle.pgp_compact.specs.kept.Course.{IsCourse, IsNext}
use Rattle.pgp_compact.specs.declared.course.Course.{Course}
use Rattle.pgp_compact.specs.declared.courses.Courses.{Courses}

-- ---- reports

-- the last epoch in which, by the infos among these entries, the group began to serve
abbrev pub started_by : List Entry → PgId → ℕ
started_by entries pg = fold max 0 (map (λ info. info.history_les) (infos_in pg entries))

-- one of these entries is a report of the group
abbrev pub HasReport : List Entry → PgId → Type 0
HasReport entries pg = IsSilent entries pg → ⊥

-- the entry says of no group but this one anything, and of this one that it began to serve in this epoch, 0 for none
pub record IsReportOf (pg : PgId) (les : ℕ) (new : Entry) : Type 0 where
  pub starts : (entries : List Entry) → started_by (entries ++ new ∷ []) pg ≡ max (started_by entries pg) les
  pub others : (entries : List Entry) (other : PgId) → is_same_group pg other ≡ false → started_by (entries ++ new ∷ []) other ≡ started_by entries other
  pub silent : (entries : List Entry) (other : PgId) → is_same_group pg other ≡ false → IsSilent entries other → IsSilent (entries ++ new ∷ []) other

-- ---- the groups

-- what is kept of the group is what these entries and incrementals say of it
pub record IsCourseIn (incs : List Incremental) (entries : List Entry) (pg : PgId) (course : Course) : Type 0 where
  pub pg_is : course.pg ≡ pg
  pub les_is : course.les ≡ started_by entries pg
  pub is : IsCourse incs course

-- the group stands at this place of the list
pub record IsAtPlace (incs : List Incremental) (entries : List Entry) (pg : PgId) (all : List Course) (place : ℕ) : Type 0 where
  pub course : Course
  pub at : slice_get all place ≡ Some course
  pub is : IsCourseIn incs entries pg course

-- each group of which these entries have a report stands at its place
pub record AreCourses (incs : List Incremental) (entries : List Entry) (courses : Courses) : Type 0 where
  pub listed : (pg : PgId) (place : ℕ) → hash.get is_same_group courses.places pg ≡ Some place → IsAtPlace incs entries pg courses.all.items place
  pub silent : (pg : PgId) → hash.get is_same_group courses.places pg ≡ None → IsSilent entries pg
  pub each : (place : ℕ) (course : Course) → slice_get courses.all.items place ≡ Some course → IsCourse incs course

-- they do of some entries, before any map
abbrev pub AreSomeCourses : Courses → Type 0
AreSomeCourses courses = (entries : List Entry) × AreCourses [] entries courses

-- ---- the next map

-- of the groups before and after a map the same is kept, except for their intervals
pub record IsSameButCourse (old new : List Course) : Type 0 where
  pub there : (place : ℕ) (course : Course) → slice_get old place ≡ Some course → (after : Course) × (slice_get new place ≡ Some after) × (after.pg ≡ course.pg) × (after.les ≡ course.les)

-- what is kept of each group of the list is what these incrementals say of it
abbrev pub EachIsCourse : List Incremental → List Course → Type 0
EachIsCourse incs all = (place : ℕ) (course : Course) → slice_get all place ≡ Some course → IsCourse incs course

-- the incremental comes next after some incrementals of which this is kept
pub record CanAllGoOn (all : List Course) (inc : Incremental) (after : OsdMap) : Type 0 where
  pub incs : List Incremental
  pub each : EachIsCourse incs all
  pub next : IsNext incs inc after

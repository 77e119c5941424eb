use Rattle.pgp_compact.proofs.Common.{Course, EachIsCourse, Incremental, IsCourse, IsMapBefore, IsNext, IsSameButCourse, List, Some, slice_get, then_with, ℕ, ◌<◌, ◌≡◌, ◌≤◌}
use Rattle.pgp_compact.proofs.courses.absorb.Given as goal

abbrev pub invariant-loop-course : goal.invariant-loop-course
invariant-loop-course l = record {
  done : (incs : List Incremental) → IsNext incs l.inc l.after → IsMapBefore incs l.inc l.before → EachIsCourse incs l.initial.groups
      → (place : ℕ) (course : Course) → place < l.course-index → slice_get l.groups place ≡ Some course → IsCourse (then_with incs l.inc) course;
  rest : (place : ℕ) → l.course-index ≤ place → slice_get l.groups place ≡ slice_get l.initial.groups place;
  same : IsSameButCourse l.initial.groups l.groups;
}

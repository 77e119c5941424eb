use Rattle.pgp_compact.proofs.Common.{AreCourses, [], arc_value, map, take}
use Rattle.pgp_compact.proofs.courses.Courses.of.Given as goal

abbrev pub invariant-loop-entry : goal.invariant-loop-entry
invariant-loop-entry l = AreCourses [] (map arc_value (take l.entry-index l.entries)) l.courses

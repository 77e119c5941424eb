use Rattle.std.proofs.Common.{max, rules, ◌≡◌}
use Rattle.std.specs.HashMap as hash
use Rattle.pgp_compact.proofs.Common.{Course, List, Some, ap, arith, is_same_group, length, refl, set, slice_get_read, slice_get_within, ℕ}
use Rattle.pgp_compact.proofs.CoursesLemmas.{noted-again, noted-first}
use Rattle.pgp_compact.proofs.courses.Courses.note_report.Goals as goal

pub index_mut-course-requires : goal.index_mut-course-requires
index_mut-course-requires c = grind (arith, c.requires.1.listed c.args.pg c.in-Some.place, slice_get_within)

pub returns-in-Some : goal.returns-in-Some
returns-in-Some c = λ entries new says are.
    let all : List Course = c.args.self.now.all.items in
    let place : ℕ = c.in-Some.place in
    let course : Course = c.index_mut-course.result.now in
    let found : hash.get is_same_group c.args.self.now.places c.args.pg ≡ Some place = search rules in
    let a = are.listed c.args.pg place found in
    let at = slice_get_read all (length all) place course refl (slice_get_within all place a.course a.at) c.index_mut-course.ensures.value in
    let started : c.max-course.result ≡ max course.les c.args.les = search rules in
    noted-again entries new c.args.pg c.args.les says c.args.self.now _ are place course found at refl (ap (λ (les : ℕ). set all place (record course { les = les })) started)

pub returns-in_ok-insert-in-None : goal.returns-in_ok-insert-in-None
returns-in_ok-insert-in-None c = grind (arith, noted-first, c.in_ok-insert-in-None.ensures.updates.0)

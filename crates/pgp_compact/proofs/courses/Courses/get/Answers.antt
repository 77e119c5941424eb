use Rattle.std.proofs.Common.{rules}
use Rattle.std.specs.HashMap as hash
use Rattle.pgp_compact.proofs.Common.{Some, is_same_group, ◌≡◌}
use Rattle.pgp_compact.proofs.CoursesLemmas.{gotten, never-lost}
use Rattle.pgp_compact.proofs.courses.Courses.get.Goals as goal

pub returns-clause-some : goal.returns-clause-some
returns-clause-some c =
    let found : hash.get is_same_group c.args.self.now.places c.args.pg.now ≡ Some c.in_ok-place.place = search rules in
    gotten c.args.self.now c.args.pg.now c.in_ok-place.place _ c.get-2.result c.deref.ensures.value found c.get-2.ensures.lookup.1

pub returns-clause-none : goal.returns-clause-none
returns-clause-none c =
    let found : hash.get is_same_group c.args.self.now.places c.args.pg.now ≡ Some c.in_ok-place.place = search rules in
    never-lost c.args.self.now c.args.pg.now c.in_ok-place.place _ c.get-2.result c.deref.ensures.value found c.get-2.ensures.lookup.0

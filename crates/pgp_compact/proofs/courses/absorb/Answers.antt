use Rattle.pgp_compact.proofs.Common.{Course, List, Some, arith, cases_eq, cases_lt, get-set_other, get-set_same, get_or, inl, inr, length, past, refl, slice_get, slice_get_read, slice_get_within, within, ℕ, ◌<◌, ◌≡◌, ◌≤◌}
use Rattle.pgp_compact.proofs.courses.absorb.Goals as goal

-- the next of the groups, which the loop hasn't changed
next-is : (groups old : List Course) (i : ℕ) (item : Course) → i < length groups → item ≡ get_or groups i item
    → ((place : ℕ) → i ≤ place → slice_get groups place ≡ slice_get old place) → slice_get old i ≡ Some item
next-is groups old i item within is rest = grind (arith, rest i, slice_get_read groups (length groups) i item refl)

pub loop-course-init : goal.loop-course-init
loop-course-init c = record {
  done = λ incs next before each place course below at. absurd (omega arith);
  rest = λ place from. refl;
  same = record { there = λ place course at. (course, at, refl, refl) };
}

pub absorb-requires : goal.absorb-requires
absorb-requires c = grind (arith, next-is, c.requires.each)

pub loop-course-preserved : goal.loop-course-preserved
loop-course-preserved c =
    let groups : List Course = c.loop-course.groups in
    let i = c.loop-course.course-index in
    let item : Course = c.course-item.result in
    let new : Course = c.absorb.new.self in
    let within : i < length groups = omega (arith, c.loop-course-test.true, c.loop-course.auto.groups) in
    let first = next-is groups c.args.groups.now i item within c.course-item.is c.loop-course.invariant.rest in
    let stands = get-set_same groups i new within in
    record {
      done = λ incs next before each place course below there. elim (cases_lt place i) [
        | inl earlier ↦ c.loop-course.invariant.done incs next before each place course earlier (grind (arith, get-set_other groups i place new))
        | inr past ↦ let here : place ≡ i = omega arith in grind (arith, stands, c.in_ok-absorb.ensures.ok incs next before, each i item first)
      ];
      rest = λ place from. grind (arith, get-set_other groups i place new, c.loop-course.invariant.rest place);
      same = record {
        there = λ place course there. elim (cases_eq place i) [
          | inl here ↦ (new, grind (arith, stands), grind (arith, c.absorb.ensures.pg), grind (arith, c.absorb.ensures.les))
          | inr apart ↦
              let was = c.loop-course.invariant.same.there place course there in
              (was.0, grind (arith, get-set_other groups i place new), was.2, was.3)
        ];
      };
    }

pub returns-clause-each : goal.returns-clause-each
returns-clause-each c = λ incs next before each place course at.
    let below : place < length c.loop-course.groups = slice_get_within c.loop-course.groups place course at in
    c.loop-course.invariant.done incs next before each place course (omega (arith, below, c.loop-course-test.false, c.loop-course.auto.groups)) at

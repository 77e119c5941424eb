-- What is kept of the groups that have reports, as entries are noted and maps follow.
use Rattle.pgp_compact.proofs.Common.{AnyCode, AreCourses, EpochsAscend, Bool, Bor, Course, Courses, EachIsCourse, Entry, GroupPlace, History, IfNone, IfSome, Incremental, Info, IsCourse, IsCourseIn, IsNext, IsReportOf, IsSameButCourse, IsSilent, IsOnCourse, LiesAt, List, Membership, None, Option, OsdMap, Past, PgId, PrimaryFacts, Report, Some, Span, [], any-same, ap, arith, begun, can_write, cases_Bool, cases_eq, code_of, comes-with_pool, cond, current_first-goes_on, current_first-over, ended, ending_at, enough_of, epoch, epoch-snoc, eq-is_same, false, filter, fold-append, front-checked, get-last, get-set_other, get-set_same, get_or, get_or_from_slice_get, group_history, grown_with, passed_over, last_place, has_group, has_group-grows, has_group-same, history-begins-made, history-current, history-grows, history-last, incs, info_of, infos-new, infos-other, infos-same, inl, inr, is_by_place, is_recorded, is_same, is_same-eq, is_same_group, is_some, last-checked, left-unmoved, length, lies-as-before, map, map-append, map_fault, map_some, max, may_leave, may_lie_on, may_move, moves_none, nat_le, nat_lt, nat_tests, later_epoch, none-moved, not, epochs_ascend, past_intervals, past_intervals-goes_on, past_intervals-over, pool, pool_membership, primary_facts, raw_set-stays, refl, report_of, reports-other, reports-same, same-self, same_group, set, slice_get, slice_get_within, span_of, started_by, stands_in, subst, suc, sym, temp-same, then_with, true, true≢false, unmade, unmoved-unplaced, wants_clean, ℕ, ◌+◌, ◌-◌, ◌&&◌, ◌++◌, ◌||◌, ◌∙◌, ◌∷◌, ◌≡◌, ◌≢◌}
use Rattle.std.specs.HashMap as hash
use Rattle.pgp_ids.specs.declared.entry.Entry.TheVariants as entry
use Rattle.pgp_ids.specs.declared.pool.PoolSpec.{PoolSpec}

-- ---- what a flag says

pub if-able : (can recorded since : Bool) → (can && (not recorded || since)) ≡ (can && (not (can && (recorded || false)) || since))
if-able can recorded since = grind (arith, nat_tests, cases_Bool can, cases_Bool recorded)

-- ---- a group that stays where it lies

may_lie-there : (incs : List Incremental) (pg : PgId) (place : GroupPlace) → LiesAt incs pg place → (osd : ℕ) → may_lie_on incs pg osd ≡ stands_in place.raw place.temp osd
may_lie-there incs pg place lies osd = grind (arith, map_some)

pub unmoved : (incs : List Incremental) (inc : Incremental) (pg : PgId) (place : GroupPlace) → map_fault incs inc ≡ None → LiesAt incs pg place → may_leave place pg inc ≡ false → may_move incs inc pg ≡ false
unmoved incs inc pg place fine lies stays =
    grind (arith, nat_tests, unmade, map_some, any-same, may_lie-there, unmoved-unplaced)

lies-still : (incs : List Incremental) (inc : Incremental) (pg : PgId) (place : GroupPlace) → map_fault incs inc ≡ None → may_move incs inc pg ≡ false → LiesAt incs pg place → LiesAt (then_with incs inc) pg place
lies-still incs inc pg place fine still lies =
    let left = left-unmoved incs inc pg still in
    grind (arith, raw_set-stays, temp-same, lies-as-before incs inc pg fine still)

-- what is kept of a group that is under way
pub under-way : (incs : List Incremental) (course : Course) (place : GroupPlace) → course.place ≡ Some place → IsOnCourse incs course.pg course.les course.first course.spans.items place → IsCourse incs course
under-way incs course place is on = grind arith

-- one interval more, if it passes
one-more : {X Y : Type 0} (f : X → Y) (test : X → Bool) (xs : List X) (x : X) → map f (filter test (xs ++ x ∷ [])) ≡ cond (test x) (map f (filter test xs) ++ f x ∷ []) (map f (filter test xs))
one-more f test [] x = grind (arith, cases_Bool (test x))
one-more f test (first ∷ xs) x = grind (arith, cases_Bool (test x), cases_Bool (test first), one-more f test xs x)

module _ (incs : List Incremental) (inc : Incremental) (after : OsdMap) (next : IsNext incs inc after) where
  abbrev later : List Incremental
  later = then_with incs inc

  pub fine : map_fault incs inc ≡ None
  fine = last-checked incs inc next.checked

  counts : EpochsAscend incs
  counts = epochs_ascend incs (front-checked incs (inc ∷ []) next.checked)

  -- the group lies there by the map, on the same members: its interval goes on
  pub stayed : (pg : PgId) (les first : ℕ) (spans : List Span) (place to : GroupPlace) → IsOnCourse incs pg les first spans place → LiesAt later pg to → is_same place.members to.members ≡ true → IsOnCourse later pg les first spans to
  stayed pg les first spans place to is lies same =
      let h : History AnyCode = is.history in
      let facts : PrimaryFacts = primary_facts incs h.current.acting_primary in
      let here : place.members ≡ h.current = grind (arith, history-current incs pg h is.history_is) in
      let to-here : to.members ≡ h.current = sym (is_same-eq place.members to.members same) ∙ here in
      let past = past_intervals-goes_on enough_of is_by_place [] h (passed_over incs inc) facts in
      record {
        history = grown_with incs inc h h.current;
        history_is = grind (arith, history-grows incs inc pg h counts fine is.history_is);
        first_is = is.first_is ∙ sym (current_first-goes_on h (passed_over incs inc) facts);
        spans_are = is.spans_are ∙ sym (ap (λ (p : List Past). map span_of (filter (wants_clean h.code les) p)) past);
        lies = lies;
      }

  -- on others: its interval ends
  pub moved : (pg : PgId) (les first : ℕ) (spans : List Span) (place to : GroupPlace) (is : IsOnCourse incs pg les first spans place) → LiesAt later pg to → is_same place.members to.members ≡ false
      → (after' : ℕ) (wanted : Bool) (spans' : List Span) → wanted ≡ wants_clean is.history.code les (ended incs inc is.history) → after' ≡ epoch later
      → spans' ≡ cond wanted (spans ++ record { first = first; last = inc.epoch - 1 } ∷ []) spans → IsOnCourse later pg les after' spans' to
  moved pg les first spans place to is lies differ after' wanted spans' wants starts are =
      let h : History AnyCode = is.history in
      let facts : PrimaryFacts = primary_facts incs h.current.acting_primary in
      let here : place.members ≡ h.current = grind (arith, history-current incs pg h is.history_is) in
      let apart : to.members ≢ h.current = λ e. true≢false (sym (eq-is_same place.members to.members (here ∙ sym e)) ∙ differ) in
      let passed : ℕ = passed_over incs inc in
      let last = history-last incs pg h counts is.history_is in
      let ends : h.first + last_place h + passed ≡ inc.epoch - 1 = omega (arith, last, later_epoch incs inc fine) in
      let past = past_intervals-over enough_of is_by_place [] h passed to.members facts apart
      ∙ ap (λ (e : ℕ). past_intervals enough_of is_by_place [] h ++ ending_at enough_of is_by_place [] h e facts ∷ []) ends in
      let span : span_of (ended incs inc h) ≡ record { first = first; last = inc.epoch - 1 } = λ i. record { first = sym is.first_is i; last = inc.epoch - 1 } in
      let more = one-more span_of (wants_clean h.code les) (past_intervals enough_of is_by_place [] h) (ended incs inc h) in
      record {
        history = grown_with incs inc h to.members;
        history_is = grind (arith, history-grows incs inc pg h counts fine is.history_is);
        first_is = grind (arith, current_first-over h passed to.members facts apart, epoch-snoc incs inc, later_epoch incs inc fine, last);
        spans_are = grind (arith, cases_Bool wanted, past, more, span, is.spans_are);
        lies = lies;
      }

  -- an incremental that doesn't move it
  pub course-unmoved : (course : Course) → may_move incs inc course.pg ≡ false → IsCourse incs course → IsCourse later course
  course-unmoved course still is = record {
    absent = λ none. grind (arith, nat_tests, has_group-same incs inc course.pg, left-unmoved incs inc course.pg still, is.absent none);
    unbegun = is.unbegun;
    there = λ place some.
        let u = is.there place some in
        let lies = lies-still incs inc course.pg place fine still u.lies in
        stayed course.pg course.les course.first course.spans.items place place u lies (eq-is_same place.members place.members refl);
  }

  -- the group comes
  pub begins : (pg : PgId) (les : ℕ) (place : GroupPlace) → has_group incs pg ≡ false → has_group later pg ≡ true → LiesAt later pg place → IsOnCourse later pg les (epoch later) [] place
  begins pg les place absent there lies =
      let m = map_some (pool_membership later pg) (pool later pg.pool) place.members lies.members_are in
      record {
        history = begun (code_of m.0.kind) inc.epoch (pool_membership later pg m.0);
        history_is = grind (arith, history-begins-made incs inc pg (comes-with_pool incs inc pg absent there) there);
        first_is = grind (arith, epoch-snoc incs inc);
        spans_are = refl;
        lies = lies;
      }

  -- the code of the group's pool stays
  pub code-later : (pg : PgId) (h : History AnyCode) (made : PoolSpec) → group_history incs pg ≡ Some h → pool later pg.pool ≡ Some made → code_of made.kind ≡ h.code
  code-later pg h made is pooled =
      let grows = history-grows incs inc pg h counts fine is in
      let there = has_group-grows incs inc pg h fine is in
      grind (arith, grows, there, pooled)

  abbrev wants_by : ℕ → AnyCode → Membership → ℕ → ℕ → Bool
  wants_by les code members first last =
      can_write (enough_of code) (is_by_place code) members
      && (not (can_write (enough_of code) (is_by_place code) members && (is_recorded (primary_facts incs members.acting_primary) first || false)) || nat_le les last)

  -- whether clean epochs of its current interval can matter once that ends, by the pool that the next map has
  pub wants-are : (pg : PgId) (les first : ℕ) (spans : List Span) (place : GroupPlace) (way : IsOnCourse incs pg les first spans place) (made : PoolSpec) → pool later pg.pool ≡ Some made
      → wants_clean way.history.code les (ended incs inc way.history) ≡ wants_by les (code_of made.kind) place.members first (inc.epoch - 1)
  wants-are pg les first spans place way made pooled =
      let h : History AnyCode = way.history in
      let code : code_of made.kind ≡ h.code = code-later pg h made way.history_is pooled in
      let here : place.members ≡ h.current = grind (arith, history-current incs pg h way.history_is) in
      λ i. wants_by les (sym code i) (sym here i) (sym way.first_is i) (inc.epoch - 1)

  -- its pool is there
  pub pool-later : (pg : PgId) (h : History AnyCode) → group_history incs pg ≡ Some h → pool later pg.pool ≡ None → ⊥
  pool-later pg h is none =
      let there = has_group-grows incs inc pg h fine is in
      grind (arith, there, none)

-- a list with one element more is the same at every other place
get-append_other : {X : Type 0} (xs : List X) (x : X) (j : ℕ) → (j ≡ length xs → ⊥) → slice_get (xs ++ x ∷ []) j ≡ slice_get xs j
get-append_other (y ∷ xs) x (suc j) differ = grind (arith, get-append_other xs x j)
get-append_other xs x j differ = grind arith

pub report-of-info : (info : Info) → IsReportOf info.pg info.history_les (entry.Info info)
report-of-info info = record {
  starts = λ entries. grind (arith, infos-new, same-self info.pg, map-append, fold-append);
  others = λ entries other differ. grind (arith, infos-other);
  silent = λ entries other differ is. grind (arith, infos-other, reports-same entries (entry.Info info) other refl);
}

pub report-of-entries : (report : Report) → IsReportOf report.pg 0 (entry.Entries report)
report-of-entries report = record {
  starts = λ entries. grind (arith, infos-same entries (entry.Entries report) report.pg refl);
  others = λ entries other differ. grind (arith, infos-same entries (entry.Entries report) other refl);
  silent = λ entries other differ is. grind (arith, infos-same entries (entry.Entries report) other refl, reports-other);
}

-- an entry that is no report
pub noted-nothing : (incs : List Incremental) (entries : List Entry) (new : Entry) (courses : Courses) → info_of new ≡ None → report_of new ≡ None → AreCourses incs entries courses → AreCourses incs (entries ++ new ∷ []) courses
noted-nothing incs entries new courses no_info no_report are = record {
  listed = λ pg place found.
      let a = are.listed pg place found in
      record { course = a.course; at = a.at; is = grind (arith, infos-same entries new pg no_info, a.is) };
  silent = λ pg none. grind (arith, infos-same entries new pg no_info, reports-same entries new pg no_report, are.silent pg none);
  each = are.each;
}

-- before any map it doesn't matter when a group began to serve
never-made : (pg : PgId) (h : History AnyCode) → group_history [] pg ≡ Some h → ⊥
never-made pg h is = let none : group_history [] pg ≡ None = refl in grind (arith, none)

started-over : (course : Course) (les : ℕ) → IsCourse [] course → IsCourse [] (record course { les = les })
started-over course les is = record {
  absent = is.absent;
  unbegun = is.unbegun;
  there = λ place some. let u = is.there place some in absurd (never-made course.pg u.history u.history_is);
}

-- ---- a report is noted

module _ (entries : List Entry) (new : Entry) (pg : PgId) (les : ℕ) (says : IsReportOf pg les new) (old courses : Courses) (are : AreCourses [] entries old) where
  -- its group stands at this place, and the others stand where they stood
  noted : (place : ℕ) (course : Course)
      → ((other : PgId) → hash.get is_same_group courses.places other ≡ cond (is_same_group pg other) (Some place) (hash.get is_same_group old.places other))
      → slice_get courses.all.items place ≡ Some course → ((j : ℕ) → (j ≡ place → ⊥) → slice_get courses.all.items j ≡ slice_get old.all.items j)
      → ((other : PgId) (j : ℕ) → is_same_group pg other ≡ false → hash.get is_same_group old.places other ≡ Some j → j ≡ place → ⊥)
      → course.pg ≡ pg → course.les ≡ max (started_by entries pg) les → IsCourse [] course → AreCourses [] (entries ++ new ∷ []) courses
  noted place course places here rest apart named told is = record {
    listed = λ other j found. elim (cases_Bool (is_same_group pg other)) [
      | inl same ↦
          record { course = course; at = grind (arith, places other); is = grind (arith, says.starts entries, same_group pg other same) }
      | inr differ ↦
          let a = are.listed other j (grind (arith, places other)) in
          record { course = a.course; at = grind (arith, rest j, apart other j differ, places other); is = grind (arith, says.others entries other) }
    ];
    silent = λ other none. grind (arith, places other, says.silent entries other, are.silent other);
    each = λ j k at. grind (arith, cases_eq j place, rest j, are.each j k);
  }

  -- of a group that stands in the list
  pub noted-again : (place : ℕ) (course : Course) → hash.get is_same_group old.places pg ≡ Some place → slice_get old.all.items place ≡ Some course → courses.places ≡ old.places
      → courses.all.items ≡ set old.all.items place (record course { les = max course.les les }) → AreCourses [] (entries ++ new ∷ []) courses
  noted-again place course found at places items =
      let one = are.listed pg place found in
      let was = are.each place course at in
      noted place (record course { les = max course.les les })
      (λ other. grind (arith, same_group pg other))
      (grind (arith, get-set_same, slice_get_within old.all.items place course at))
      (λ j differ. grind (arith, get-set_other))
      (λ other j differ found' e. grind (arith, are.listed other j found', same-self pg))
      (grind arith) (grind arith) (started-over course (max course.les les) was)

  -- of a group that is new
  pub noted-first : (course : Course) → course.pg ≡ pg → course.les ≡ les → IsCourse [] course → hash.get is_same_group old.places pg ≡ None
      → ((other : PgId) → hash.get is_same_group courses.places other ≡ cond (is_same_group pg other) (Some (length old.all.items)) (hash.get is_same_group old.places other))
      → courses.all.items ≡ old.all.items ++ course ∷ [] → AreCourses [] (entries ++ new ∷ []) courses
  noted-first course named told is none places items =
      let all : List Course = old.all.items in
      noted (length all) course places (grind (arith, get-last all course)) (λ j differ. grind (arith, get-append_other all course j))
      (λ other j differ found e. let a = are.listed other j found in omega (arith, slice_get_within all j a.course a.at))
      named (grind (arith, are.silent pg none)) is

pub gotten : (courses : Courses) (pg : PgId) (place : ℕ) (all : List Course) (got : Option (Bor Course)) → all ≡ courses.all.items → hash.get is_same_group courses.places pg ≡ Some place → IfSome got (λ course. course.now ≡ get_or all place course.now)
    → IfSome got (λ course. (incs : List Incremental) (entries : List Entry) → AreCourses incs entries courses → IsCourseIn incs entries pg course.now)
gotten courses pg place all None same found at = tt
gotten courses pg place all (Some course) same found at = λ incs entries are.
    let a = are.listed pg place found in
    subst (IsCourseIn incs entries pg) (grind (arith, get_or_from_slice_get courses.all.items place a.course course.now a.at)) a.is

pub never-lost : (courses : Courses) (pg : PgId) (place : ℕ) (all : List Course) (got : Option (Bor Course)) → all ≡ courses.all.items → hash.get is_same_group courses.places pg ≡ Some place → is_some got ≡ nat_lt place (length all)
    → IfNone got ((incs : List Incremental) (entries : List Entry) → AreCourses incs entries courses → IsSilent entries pg)
never-lost courses pg place all None same found some = λ incs entries are. grind (arith, nat_tests, are.listed pg place found, slice_get_within)
never-lost courses pg place all (Some course) same found some = tt

-- ---- the next map

module _ (incs : List Incremental) (inc : Incremental) (after : OsdMap) (next : IsNext incs inc after) (entries : List Entry) (old : Courses) (are : AreCourses incs entries old) where
  -- each has taken it
  pub gone-on : (courses : Courses) → courses.places ≡ old.places → EachIsCourse (then_with incs inc) courses.all.items → IsSameButCourse old.all.items courses.all.items → AreCourses (then_with incs inc) entries courses
  gone-on courses places each same = record {
    listed = λ pg place found.
        let a = are.listed pg place (grind arith) in
        let b = same.there place a.course a.at in
        record { course = b.0; at = b.1; is = grind (arith, each place b.0 b.1) };
    silent = λ pg none. are.silent pg (grind arith);
    each = each;
  }

  -- it moves none of them
  pub gone-by : moves_none inc ≡ true → AreCourses (then_with incs inc) entries old
  gone-by none = gone-on old refl
      (λ place course at. course-unmoved incs inc after next course (none-moved incs inc course.pg none) (are.each place course at))
      (record { there = λ place course at. (course, at, refl, refl) })

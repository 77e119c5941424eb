use Rattle.pgp_shard.proofs.Common.{◌≡◌, ◌+◌, ◌<◌, List, [], ◌∷◌, ◌++◌, Some, true, length, length-set, not-true, refl, sym, ap, ◌∙◌, inl, inr, arith, slice_get, cases_eq, All-set, slice_get_read, slice_get_within, get-set_other, is_touched, AreAllMarked, IsChangesOf, IsKeptOf, lacks_view, Groups, KeptGroup, Row}
use Rattle.pgp_ids.specs.declared.entry.Entry.TheVariants as entry
use Rattle.pgp_shard.proofs.GroupsLemmas.{ids-set, marked-there}
use Rattle.pgp_shard.proofs.MarksLemmas.{marks-set, marks-set-still}
use Rattle.pgp_shard.proofs.WorkedLemmas.{keeps-on, keeps-set}
use Rattle.pgp_tables.proofs.Common.{same_group}
use Rattle.pgp_shard.proofs.RowLemmas.{each-set, passed-stays, rows-set}
use Rattle.pgp_shard.proofs.groups.Groups.pass_on.Goals as goal

pub absorb_inc-requires : goal.absorb_inc-requires
absorb_inc-requires c =
    let so_far = c.loop-place.invariant in
    let groups : List KeptGroup = c.loop-place.self.kept.items in
    let i = c.loop-place.place in
    let item : KeptGroup = c.index_mut-kept.result.now in
    let within : i < length groups = omega (arith, c.loop-place-test.true, c.len-place-end.ensures, c.args.self.now.rows.ok.0, c.requires.rows.long, so_far.long) in
    let at : slice_get groups i ≡ Some item = slice_get_read groups (length groups) i item refl within c.index_mut-kept.ensures.value in
    record { log = c.requires.log; is = c.requires.are.each i item (sym (so_far.rest i (omega arith)) ∙ at); step = rw so_far.map c.requires.step }

-- a group that is passed by stays as it is
pub loop-place-preserved-then-is_passed_by : goal.loop-place-preserved-then-is_passed_by
loop-place-preserved-then-is_passed_by c =
    let so_far = c.loop-place.invariant in
    let inc = c.args.inc.now in
    let now : Groups = c.loop-place.self in
    let i = c.loop-place.place in
    let row : Row = c.index.result.now in
    let says : IsChangesOf inc c.args.before.now now.map c.of-changes.result = rw so_far.map c.of-changes.ensures in
    let within : i < length now.rows.items = omega (arith, c.loop-place-test.true, c.len-place-end.ensures, c.args.self.now.rows.ok.0, c.requires.rows.long, so_far.long, so_far.rows.long) in
    let at : slice_get now.rows.items i ≡ Some row = slice_get_read now.rows.items (length now.rows.items) i row refl within c.index.ensures in
    record {
      map = so_far.map;
      places = so_far.places;
      worked = so_far.worked;
      ids = so_far.ids;
      long = so_far.long;
      rows = so_far.rows;
      done = λ log are step place kept below there. elim (cases_eq place i) [
        | inl here ↦
            let found : slice_get now.kept.items i ≡ Some kept = ap (slice_get now.kept.items) (sym here) ∙ there in
            passed-stays log inc c.args.before.now now.map c.of-changes.result row kept says (so_far.rows.each i row kept at found)
            (are.each i kept (sym (so_far.rest i (omega arith)) ∙ found)) step
            (not-true _ (sym c.is_passed_by.ensures ∙ c.if-is_passed_by.true))
        | inr other ↦ so_far.done log are step place kept (omega (arith, below, other)) there
      ];
      rest = λ place past. so_far.rest place (omega (arith, past));
      marks = so_far.marks;
      kept = so_far.kept;
      marked = so_far.marked;
    }

-- each other takes the incremental
pub loop-place-preserved : goal.loop-place-preserved
loop-place-preserved c =
    let so_far = c.loop-place.invariant in
    let inc = c.args.inc.now in
    let now : Groups = c.loop-place.self in
    let groups : List KeptGroup = now.kept.items in
    let i = c.loop-place.place in
    let item : KeptGroup = c.index_mut-kept.result.now in
    let new : KeptGroup = c.absorb_inc.new.self in
    let done = c.in_ok-absorb_inc.ensures in
    let within : i < length groups = omega (arith, c.loop-place-test.true, c.len-place-end.ensures, c.args.self.now.rows.ok.0, c.requires.rows.long, so_far.long) in
    let at : slice_get groups i ≡ Some item = slice_get_read groups (length groups) i item refl within c.index_mut-kept.ensures.value in
    let first : slice_get c.args.self.now.kept.items i ≡ Some item = sym (so_far.rest i (omega arith)) ∙ at in
    record {
      map = so_far.map;
      places = so_far.places;
      worked = so_far.worked;
      ids = ids-set groups i item new at c.absorb_inc.ensures.pg ∙ so_far.ids;
      long = length-set groups i new ∙ so_far.long;
      rows = rows-set now.rows.items groups i c.row.result new within c.row.ensures so_far.rows;
      done = λ log are step place kept below there.
          each-set (λ j k. j < i + 1 → IsKeptOf (log ++ entry.Inc inc ∷ []) k) groups i new within
          (λ here. done.ok log (are.each i item first) step)
          (λ j k other at below. so_far.done log are step j k (omega (arith, below, other)) at) place kept there below;
      rest = λ place past. get-set_other groups i place new (λ same. omega (arith, past, same)) ∙ so_far.rest place (omega (arith, past));
      marks = λ log are step pg untouched.
          marks-set groups i item new pg at c.absorb_inc.ensures.pg
          (λ same. done.marks log (are.each i item first) step (ap (is_touched log (entry.Inc inc)) (sym (same_group pg item.pg same)) ∙ untouched))
          ∙ so_far.marks log are step pg untouched;
      kept = keeps-on c.args.self.now now _ so_far.kept (record {
        marks = λ pg was. marks-set-still groups i item new pg at c.absorb_inc.ensures.pg done.marked was;
        worked = λ pg unmarked. keeps-set groups i item new pg at c.absorb_inc.ensures.pg done.stays unmarked;
      });
      marked = λ all.
          let marked : AreAllMarked groups = so_far.marked all in
          All-set (λ (k : KeptGroup). lacks_view k ≡ true) groups i new
          (done.marked (marked-there groups i item marked at)) marked;
    }

pub returns : goal.returns
returns c =
    let so_far = c.loop-place.invariant in
    let now : Groups = c.loop-place.self in
    record {
      map = so_far.map;
      places = so_far.places;
      worked = so_far.worked;
      ids = so_far.ids;
      rows = so_far.rows;
      each = λ log are step. record {
        each = λ place kept at. so_far.done log are (rw so_far.map step) place kept
            (omega (arith, slice_get_within now.kept.items place kept at, c.loop-place-test.false, c.len-place-end.ensures, c.args.self.now.rows.ok.0, c.requires.rows.long, so_far.long)) at;
      };
      marks = λ log are step. so_far.marks log are (rw so_far.map step);
      kept = so_far.kept;
      marked = so_far.marked;
    }

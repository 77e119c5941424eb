use Rattle.pgp_shard.proofs.Common.{◌≡◌, ◌<◌, List, Some, length, rules, take, refl, sym, ap, ◌∙◌, arith, slice_get, length-set, take_more_set, slice_get_read, get-set_other, lacks_view, marks_in, Groups, KeptGroup, Row}
use Rattle.pgp_shard.proofs.KeptLemmas.{kept-inc}
use Rattle.pgp_shard.proofs.MarksLemmas.{pg_of, renewing-leaves, renewing-passes, renewing-renews, renewing-starts, some-marked, unmarked_by}
use Rattle.pgp_shard.proofs.RowLemmas.{beside-row}
use Rattle.pgp_shard.proofs.PassingLemmas.{front-fails, front-passes, passing-fails}
use Rattle.pgp_shard.proofs.WorkedLemmas.{renews-more, renews-none}
use Rattle.pgp_log.proofs.SharedLemmas.{on_err}
use Rattle.pgp_shard.proofs.groups.Groups.renew.Goals as goal
use Rattle.pgp_shard.proofs.groups.Groups.renew.Goals.{then-index+then-more-gt0+in_ok-renew_at, then-index+else-more-gt0, else-index}

pub loop-place-init : goal.loop-place-init
loop-place-init c = record { places = c.requires; long = refl; is = λ owner log are long. (are, renews-none c.args.count c.args.self.now); rest = λ at from. refl; renewing = renewing-starts c.args.max }

pub loop-place-preserved : goal.loop-place-preserved
loop-place-preserved c =
    let first : List KeptGroup = c.args.self.now.kept.items in
    let now : Groups = c.loop-place.self in
    let groups : List KeptGroup = now.kept.items in
    let i = c.loop-place.place in
    let so_far = c.loop-place.invariant in
    let row : Row = c.index.result.now in
    let long : length now.rows.items ≡ length groups = so_far.places.rows.long in
    let within : i < length now.rows.items = omega (arith, c.loop-place-test.true, c.len-place-end.ensures, c.args.self.now.rows.ok.0, c.requires.rows.long, so_far.long, long) in
    let beside = beside-row now.rows.items groups i row so_far.places.rows (slice_get_read now.rows.items (length now.rows.items) i row refl within c.index.ensures) in
    let item : KeptGroup = beside.kept in
    let at : slice_get groups i ≡ Some item = beside.at in
    let was : slice_get first i ≡ Some item = sym (so_far.rest i (omega arith)) ∙ at in
    elim c.if-index.branch [
      | then-index+then-more-gt0+in_ok-renew_at w ↦
          let one = w.in_ok-renew_at.ensures.one in
          rw (w.self-is, w.more-is, w.left-is) (record {
            places = w.in_ok-renew_at.ensures.at;
            long = ap length one.kept ∙ length-set groups i one.after ∙ so_far.long;
            is = λ owner log are long.
                let before = so_far.is owner log are long in
                let after = w.in_ok-renew_at.ensures.is owner log before.0 long in
                (after.0, renews-more c.args.count c.args.self.now now w.renew_at.new.self before.1 after.1);
            rest = λ place from. ap (λ (l : List KeptGroup). slice_get l place) one.kept ∙ get-set_other groups i place one.after (λ same. omega arith) ∙ so_far.rest place (omega arith);
            renewing =
                rw (front-passes lacks_view pg_of first i item was (sym beside.marked ∙ w.if-index.true), one.kept, take_more_set groups i one.after (omega (arith, within, long)), passing-fails lacks_view pg_of (take i groups) one.after (unmarked_by one.after.view one.view))
                (renewing-renews c.args.max i c.loop-place.more c.loop-place.left _ _ item.pg w.if-more-gt0.true so_far.renewing);
          })
      | then-index+else-more-gt0 w ↦
          let passes = sym beside.marked ∙ w.if-index.true in
          rw (w.self-is, w.more-is, w.left-is) (record {
            places = so_far.places;
            long = so_far.long;
            is = so_far.is;
            rest = λ place from. so_far.rest place (omega arith);
            renewing = rw (front-passes lacks_view pg_of first i item was passes, front-passes lacks_view pg_of groups i item at passes)
                (renewing-leaves c.args.max i c.loop-place.more c.loop-place.left _ _ item.pg (omega (arith, w.if-more-gt0.false)) so_far.renewing);
          })
      | else-index w ↦
          let fails = sym beside.marked ∙ w.if-index.false in
          rw (w.self-is, w.more-is, w.left-is) (record {
            places = so_far.places;
            long = so_far.long;
            is = so_far.is;
            rest = λ place from. so_far.rest place (omega arith);
            renewing = rw (front-fails lacks_view pg_of first i item was fails, front-fails lacks_view pg_of groups i item at fails)
                (renewing-passes c.args.max i c.loop-place.more c.loop-place.left _ _ so_far.renewing);
          })
    ]

pub returns-in_err-renew_at : goal.returns-in_err-renew_at
returns-in_err-renew_at c =
    let first : List KeptGroup = c.args.self.now.kept.items in
    let so_far = c.loop-place.invariant in
    let one = c.in_err-renew_at.ensures.one in
    let was : slice_get first c.loop-place.place ≡ Some one.before = sym (so_far.rest c.loop-place.place (omega arith)) ∙ one.there in
    let some : 0 < length (marks_in first) = some-marked first c.loop-place.place one.before was one.wants in
    record {
      is = λ owner log are long.
          let before = so_far.is owner log are long in
          let after = c.in_err-renew_at.ensures.is owner log before.0 long in
          (after.0, renews-more c.args.count c.args.self.now c.loop-place.self c.renew_at.new.self before.1 after.1);
      marks = search rules;
      left = search rules;
      wants = on_err c.from_residual.result _ (λ owner log are. kept-inc log one.before (are.groups_are.each.each c.loop-place.place one.before was));
      wants_marked = on_err c.from_residual.result _ (omega (arith, some, c.if-more-gt0.true, so_far.renewing.room));
    }

use Rattle.pgp_shard.proofs.Common.{refl, sym, ◌∙◌, incs_of, Groups, on_ok_weaker}
use Rattle.pgp_ids.specs.declared.entry.Entry.TheVariants as entry
use Rattle.pgp_shard.proofs.GroupsLemmas.{at-places, marked-there}
use Rattle.pgp_shard.proofs.OwnGroupsLemmas.{groups-pass, groups-step, step-begins}
use Rattle.pgp_log.proofs.TakeLemmas.{faultless-tree, fits-faultless}
use Rattle.pgp_log.proofs.TouchLemmas.{none-moved, nothing-touched}
use Rattle.pgp_shard.proofs.StillLemmas.{kept-stays, kept-unseen}
use Rattle.pgp_shard.proofs.groups.Groups.absorb_inc.Goals as goal

pub apply-requires : goal.apply-requires
apply-requires c =
    let can = c.requires.can in
    faultless-tree can.log (entry.Inc c.args.inc.now) (fits-faultless can.log (entry.Inc c.args.inc.now) can.fits)

pub returns-then-changes_nothing-clause-ok : goal.returns-then-changes_nothing-clause-ok
returns-then-changes_nothing-clause-ok c = λ owner log is fit.
    let inc = c.args.inc.now in
    let step = step-begins owner log inc c.args.self.now c.in_ok-before.before c.apply.new.self is fit c.in_ok-before.ensures c.in_ok-apply.ensures.ok in
    groups-pass owner log inc c.args.self.now c.in_ok-before.before c.apply.new.self is step
    (λ place kept at was. kept-stays log inc c.in_ok-before.before c.apply.new.self kept step was (nothing-touched log inc kept.pg (sym c.changes_nothing.ensures ∙ c.if-changes_nothing.true)))

pub returns-then-moves_none-clause-ok : goal.returns-then-moves_none-clause-ok
returns-then-moves_none-clause-ok c = λ owner log is fit.
    let inc = c.args.inc.now in
    let old : Groups = c.args.self.now in
    let step = step-begins owner log inc old c.in_ok-before.before c.apply.new.self is fit c.in_ok-before.ensures c.in_ok-apply.ensures.ok in
    groups-pass owner log inc old c.in_ok-before.before c.apply.new.self is step
    (λ place kept at was. kept-unseen log inc c.in_ok-before.before c.apply.new.self kept (marked-there old.kept.items place kept (is.groups_are.marked_are (search)) at) step was
    (none-moved (incs_of log) inc kept.pg (sym c.moves_none.ensures ∙ c.if-moves_none.true)))

pub pass_on-requires : goal.pass_on-requires
pass_on-requires c =
    let can = c.requires.can in
    record {
      log = can.log;
      are = can.is.groups_are.each;
      rows = can.is.groups_are.places_are.rows;
      step = step-begins c.requires.owner can.log c.args.inc.now c.args.self.now c.in_ok-before.before c.apply.new.self can.is can.fits c.in_ok-before.ensures c.in_ok-apply.ensures.ok;
    }

pub returns-clause-ok : goal.returns-clause-ok
returns-clause-ok c =
    let old : Groups = c.args.self.now in
    let now : Groups = c.pass_on.new.self in
    on_ok_weaker c.pass_on.result
    (λ given owner log is fit.
    let step = step-begins owner log c.args.inc.now old c.in_ok-before.before c.apply.new.self is fit c.in_ok-before.ensures c.in_ok-apply.ensures.ok in
    groups-step owner log c.args.inc.now old c.in_ok-before.before now is (rw given.map step) (record {
      each = given.each log is.groups_are.each step;
      places_are = at-places old now given.places given.ids given.rows is.groups_are.places_are;
      marked_are = λ none. given.marked (is.groups_are.marked_are (sym given.worked ∙ none));
    }) given.ids)
    c.pass_on.ensures

pub returns-clause-marks : goal.returns-clause-marks
returns-clause-marks c =
    on_ok_weaker c.pass_on.result
    (λ given owner log is fit. given.marks log is.groups_are.each
    (step-begins owner log c.args.inc.now c.args.self.now c.in_ok-before.before c.apply.new.self is fit c.in_ok-before.ensures c.in_ok-apply.ensures.ok))
    c.pass_on.ensures

pub returns-clause-kept : goal.returns-clause-kept
returns-clause-kept c = on_ok_weaker c.pass_on.result (λ given. record { marks = given.kept.marks; worked = given.kept.worked }) c.pass_on.ensures

pub returns-clause-marked : goal.returns-clause-marked
returns-clause-marked c = on_ok_weaker c.pass_on.result (λ given. given.marked) c.pass_on.ensures

pub returns-then-changes_nothing-clause-kept : goal.returns-then-changes_nothing-clause-kept
returns-then-changes_nothing-clause-kept c = record { marks = λ pg was. was; worked = λ pg unmarked. refl }

pub returns-then-moves_none-clause-kept : goal.returns-then-moves_none-clause-kept
returns-then-moves_none-clause-kept c = record { marks = λ pg was. was; worked = λ pg unmarked. refl }

use Rattle.pgp_shard.proofs.Common.{◌≡◌, None, Some, is_some, rules, sym, ap, ◌∙◌, and_parts, has_group, is_same_group, incs_of, owns, marks_in, Groups}
use Rattle.std.specs.HashMap as hash
use Rattle.pgp_shard.proofs.GroupsLemmas.{keeps-found, place-within}
use Rattle.pgp_shard.proofs.KeptLemmas.{kept-inc}
use Rattle.pgp_shard.proofs.MarksLemmas.{marked-at, marks-asked, marks-elsewhere}
use Rattle.pgp_shard.proofs.OwnGroupsLemmas.{found-own}
use Rattle.pgp_shard.proofs.WorkedLemmas.{renews-none}
use Rattle.pgp_log.proofs.SharedLemmas.{on_err}
use Rattle.pgp_shard.proofs.groups.Groups.work_out.Goals as goal

pub renew_at-requires : goal.renew_at-requires
renew_at-requires c = record { within = place-within c.args.self.now c.args.pg.now c.in-Some.place c.requires (sym c.find.ensures ∙ c.in-Some.is); at = c.requires }

pub returns : goal.returns
returns c =
    let old : Groups = c.args.self.now in
    let pg = c.args.pg.now in
    let one = c.in_ok-renew_at.ensures.one in
    let is : hash.get is_same_group old.places pg ≡ Some c.in-Some.place = sym c.find.ensures ∙ c.in-Some.is in
    record {
      there = λ owner log are own. found-own owner log old pg (Some c.in-Some.place) is are own;
      is = c.in_ok-renew_at.ensures.is;
      marks = ap marks_in one.kept ∙ marks-asked old pg c.in-Some.place one.before one.after c.requires is one.there one.view;
      wants = tt;
      wants_there = tt;
      wants_marked = tt;
    }

pub returns-in_err-renew_at : goal.returns-in_err-renew_at
returns-in_err-renew_at c =
    let old : Groups = c.args.self.now in
    let pg = c.args.pg.now in
    let one = c.in_err-renew_at.ensures.one in
    let is : hash.get is_same_group old.places pg ≡ Some c.in-Some.place = sym c.find.ensures ∙ c.in-Some.is in
    record {
      there = search rules;
      is = c.in_err-renew_at.ensures.is;
      marks = search rules;
      wants = on_err c.from_residual.result _ (λ owner log are. kept-inc log one.before (are.groups_are.each.each c.in-Some.place one.before one.there));
      wants_there = on_err c.from_residual.result _ (λ owner log are.
          (and_parts (owns owner pg) (has_group (incs_of log) pg) (sym (are.own_are pg) ∙ (sym (keeps-found old pg c.requires) ∙ ap is_some is))).1);
      wants_marked = on_err c.from_residual.result _ (marked-at old pg c.in-Some.place one.before c.requires is one.there ∙ one.wants);
    }

pub returns-in_default-clause-marks : goal.returns-in_default-clause-marks
returns-in_default-clause-marks c = marks-elsewhere c.args.self.now c.args.pg.now c.requires (sym c.find.ensures ∙ c.in_default.is)

pub returns-in_default-clause-there : goal.returns-in_default-clause-there
returns-in_default-clause-there c = λ owner log are own. found-own owner log c.args.self.now c.args.pg.now None (sym c.find.ensures ∙ c.in_default.is) are own

pub returns-in_default-clause-is : goal.returns-in_default-clause-is
returns-in_default-clause-is c = λ owner log are long. (are, renews-none c.args.count c.args.self.now)

use Rattle.std.proofs.Common.{◌≡◌, List, Some, map, refl, sym, ◌∙◌, subst}
use Rattle.std.specs.Arc.{arc_value}
use Rattle.pgp_group.specs.Entries.{incs_of}
use Rattle.pgp_group.specs.View.{scratch}
use Rattle.pgp_ids.specs.declared.entry.Entry.{Entry}
use Rattle.pgp_map.specs.MapOf.{IsMapOf}
use Rattle.pgp_whole.proofs.SummaryGroups.{viewed}
use Rattle.pgp_whole.proofs.advice.explanation_of.Goals as goal

pub returns-clause-some : goal.returns-clause-some
returns-clause-some c =
    let told : map arc_value c.entries.result.now ≡ c.args.log.now = c.entries.ensures.entries ∙ c.ask.ensures.same in
    let view : scratch c.args.log.now c.args.pg.now ≡ Some c.in-Some-2.view =
    sym (sym c.in-Some-2.is ∙ c.in_ok-view.ensures.view) in
    let found = viewed c.args.log.now c.args.pg.now c.in-Some-2.view view in
    record {
      pg_is = refl;
      view_is = view;
      group = found.0;
      there = found.1.0;
      reasons_are = c.in_ok-reasons.ensures found.0 (record {
        map_is = subst (λ (l : List Entry). IsMapOf (incs_of l) c.map-2.result.now) (c.ask.ensures.same ∙ sym told) c.map-2.ensures;
        group_is = rw told found.1.0;
        view_is = rw told view;
      });
      pool_is = sym (c.pool.ensures.value (incs_of c.args.log.now) c.map.ensures) ∙ c.in-Some.is;
    }

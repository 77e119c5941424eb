use Rattle.std.proofs.Common.{List, sym, ◌∙◌, subst}
use Rattle.std.specs.List.{filter_map}
use Rattle.std.proofs.lemmas.Result.{on_ok_weaker}
use Rattle.pgp_ids.specs.declared.entry.Entry.{Entry}
use Rattle.pgp_ids.specs.declared.pg_id.PgId.{PgId}
use Rattle.pgp_map.specs.MapOf.{IsMapOf}
use Rattle.pgp_group.specs.Entries.{incs_of}
use Rattle.pgp_group.specs.GroupLog.{group_in}
use Rattle.pgp_whole.proofs.SummaryGroups.{sums-more, sums-same, unviewed, viewed}
use Rattle.pgp_whole.proofs.summary.add_group.Goals as goal

pub returns-in-Some-clause-more : goal.returns-in-Some-clause-more
returns-in-Some-clause-more c =
    let log : List Entry = c.args.log.now in
    let pg : PgId = c.args.pg.now in
    let found = viewed log pg c.in-Some.view (sym c.in_ok-view.ensures.view ∙ c.in-Some.is) in
    on_ok_weaker c.add.result
    (λ each pgs stamped are.
    sums-more log pgs pg found.0 c.add.new.self found.1.0
    (each (filter_map (group_in log) pgs) log found.0 are
    (record {
      map_is = subst (λ (l : List Entry). IsMapOf (incs_of l) c.map.result.now) c.ask.ensures.same c.map.ensures;
      group_is = found.1.0;
      view_is = sym c.in_ok-view.ensures.view ∙ c.in-Some.is;
    }) stamped))
    c.add.ensures

pub returns-in-None-clause-more : goal.returns-in-None-clause-more
returns-in-None-clause-more c = λ pgs stamped are.
    let log : List Entry = c.args.log.now in
    sums-same log pgs c.args.pg.now c.args.sums.now (unviewed log c.args.pg.now (sym c.in_ok-view.ensures.view ∙ c.in-None.is)) are

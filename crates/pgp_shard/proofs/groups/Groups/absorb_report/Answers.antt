use Rattle.pgp_shard.proofs.Common.{◌≡◌, [], ◌∷◌, ◌++◌, Some, true, true≢false, refl, sym, ◌∙◌, slice_get, All-set, on_ok_weaker, is_same_group, incs_of, lacks_view, Groups, KeptGroup}
use Rattle.std.specs.HashMap as hash
use Rattle.pgp_log.proofs.FitsLemmas.{nothing_ahead}
use Rattle.pgp_shard.proofs.GroupsLemmas.{groups-anew, groups-on, ids-set, kept-at, kept-within, missing-group, other-group, place-holds, row-within}
use Rattle.pgp_shard.proofs.KeptLemmas.{kept-inc, kept-untold}
use Rattle.pgp_shard.proofs.MarksLemmas.{another, marks-set, marks-set-still, ok-anyhow}
use Rattle.pgp_shard.proofs.WorkedLemmas.{keeps-none, keeps-set}
use Rattle.pgp_shard.proofs.OwnGroupsLemmas.{own-told}
use Rattle.pgp_log.proofs.SharedLemmas.{on_err}
use Rattle.pgp_shard.proofs.groups.Groups.absorb_report.Goals as goal

pub index_mut-kept-requires : goal.index_mut-kept-requires
index_mut-kept-requires c = kept-within c.args.self.now c.args.pg.now c.in-Some.place c.requires (sym c.find.ensures ∙ c.in-Some.is)

pub index_mut-requires : goal.index_mut-requires
index_mut-requires c = row-within c.args.self.now c.args.pg.now c.in-Some.place c.requires (sym c.find.ensures ∙ c.in-Some.is)

pub returns-in-Some : goal.returns-in-Some
returns-in-Some c =
    let old : Groups = c.args.self.now in
    let new = c.args.entry.now in
    let pg = c.args.pg.now in
    let place = c.in-Some.place in
    let kept : KeptGroup = c.index_mut-kept.result.now in
    let after : KeptGroup = c.absorb_report-taken.new.self in
    let taken = c.absorb_report-taken.ensures in
    let is : hash.get is_same_group old.places pg ≡ Some place = sym c.find.ensures ∙ c.in-Some.is in
    let at : slice_get old.kept.items place ≡ Some kept = kept-at old pg place kept c.requires is c.index_mut-kept.ensures.value in
    record {
      ok = on_ok_weaker c.absorb_report-taken.result
          (λ given owner log none fit untouched own.
          own-told owner log new old _ none fit refl
          (groups-anew log (log ++ new ∷ []) old place kept after c.row.result old.some_worked_out at taken.pg c.row.ensures (λ still. (still, taken.marked))
          (given log none (c.epoch.ensures (incs_of log) own.map_is) (nothing_ahead log kept.pg new fit))
          (λ j other differs there. kept-untold log new other none (untouched other.pg (other-group old pg place j other c.requires is there differs))) own.groups_are)
          (ids-set old.kept.items place kept after at taken.pg) own)
          taken.ok;
      marks = ok-anyhow c.absorb_report-taken.result _
          (λ other differs. marks-set old.kept.items place kept after other at taken.pg (another pg kept.pg other (place-holds old pg place kept c.requires is at) differs));
      kept = ok-anyhow c.absorb_report-taken.result _ (record {
        marks = λ other was. marks-set-still old.kept.items place kept after other at taken.pg (λ _. taken.marked) was;
        worked = λ other unmarked. keeps-set old.kept.items place kept after other at taken.pg (λ there. absurd (true≢false (sym taken.marked ∙ there))) unmarked;
      });
      marked = ok-anyhow c.absorb_report-taken.result _ (All-set (λ (k : KeptGroup). lacks_view k ≡ true) old.kept.items place after taken.marked);
      wants = on_err c.absorb_report-taken.result _ (λ owner log own. kept-inc log kept (own.groups_are.each.each place kept at));
    }

pub returns-in-None-clause-ok : goal.returns-in-None-clause-ok
returns-in-None-clause-ok c = λ owner log none fit untouched own.
    let old : Groups = c.args.self.now in
    let new = c.args.entry.now in
    let missing = sym c.find.ensures ∙ c.in-None.is in
    own-told owner log new old old none fit refl
    (groups-on log (log ++ new ∷ []) old old.map
    (λ place kept at. kept-untold log new kept none (untouched kept.pg (missing-group old c.args.pg.now place kept c.requires missing at))) own.groups_are) refl own

pub returns-in-None-clause-kept : goal.returns-in-None-clause-kept
returns-in-None-clause-kept c = keeps-none c.args.self.now

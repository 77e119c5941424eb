use Rattle.std.proofs.Common.{◌≡◌, List, map, ap, subst, sym, ◌∙◌}
use Rattle.std.specs.Arc.{arc_value}
use Rattle.std.specs.List.{filter}
use Rattle.pgp_ids.specs.declared.entry.Entry.{Entry}
use Rattle.pgp_ids.specs.declared.report.Info.{Info}
use Rattle.pgp_ids.specs.declared.view.View.{View}
use Rattle.pgp_code.specs.declared.any.AnyCode.{AnyCode}
use Rattle.pgp_info.specs.Heard.{Heard, last_of_each_member}
use Rattle.pgp_info.specs.declared.preference.Preference.{Preference}
use Rattle.pgp_group.specs.Entries.{incs_of}
use Rattle.pgp_group.specs.GroupLog.{cleans, infos}
use Rattle.pgp_group.specs.Heard.{heard}
use Rattle.pgp_group.specs.Heard.{counts}
use Rattle.pgp_reasons.specs.Blocking.{blocking_of, clean_of}
use Rattle.pgp_reasons.specs.Copies.{copies_of}
use Rattle.pgp_reasons.specs.Short.{short_of}
use Rattle.pgp_reasons.proofs.ReasonsLemmas.{IsAskedOf, asked-is, asked-present, asked-infos, best-found, viewed-asked, unviewed}
use Rattle.pgp_reasons.proofs.reasons.reasons_of.Goals as goal

pub returns : goal.returns
returns c = λ g viewed.
    let log : List Entry = map arc_value c.args.entries.now in
    let code = c.of_pool-code.result in
    let map' = c.args.map.now in
    let view = c.args.view.now in
    let is : IsAskedOf log code map' c.args.pg view g =
    subst (λ (by : AnyCode). IsAskedOf log by map' c.args.pg view g) (sym c.of_pool-code.ensures)
    (viewed-asked log map' c.args.pg view g c.in-Some.pool (sym (c.in-Some.ensures.value (incs_of log) viewed.map_is)) viewed) in
    let told : c.as_slice-infos.result.now ≡ infos g = c.as_slice-infos.ensures ∙ c.in_ok-infos.ensures ∙ asked-infos is in
    let heard_is : c.in_ok-heard.heard.infos ≡ heard g =
    ap (λ (h : Heard Preference). h.infos) (c.in_ok-heard.ensures g (asked-present is))
    ∙ ap (λ (l : List Info). last_of_each_member (filter (counts g) l)) told in
    let best = best-found g _ _ _ (ap (λ (v : View). v.best) is.view_is) heard_is c.info_of_best-best.ensures in
    record {
      heard_is = c.from_vec.ensures ∙ c.in_ok-to_vec.ensures.items_if_clones_equal (λ _ _ same. same) ∙ c.infos-3.ensures ∙ heard_is;
      blocking_is = c.in_ok-blocking.ensures
          ∙ rw (c.as_slice-past.ensures, told) (asked-is (λ by status lost seen. blocking_of by status lost (cleans g) seen.les seen.intervals)
          g code map' view is.code_is is.map_is is.view_is);
      ways_are = c.in_ok-ways.ensures g is.code_is is.map_is is.view_is;
      clean_is = c.in_ok-clean.ensures
          ∙ rw (c.as_slice-past.ensures, told) (asked-is (λ by status lost seen. clean_of by status lost (cleans g) seen.les seen.intervals)
          g code map' view is.code_is is.map_is is.view_is);
      copies_is = c.in_ok-copies.ensures ∙ (λ i. copies_of (sym is.code_is i) (best i) ((c.infos-2.ensures ∙ heard_is) i));
      short_is = c.in_ok-short.ensures
          ∙ asked-is (λ by status lost seen. short_of by status seen.les seen.intervals seen.acting)
          g code map' view is.code_is is.map_is is.view_is;
      gaps_is = c.in_ok-gaps.ensures g is.log_is is.pg_is (asked-present is) best;
    }

pub returns-in_default : goal.returns-in_default
returns-in_default c = λ g is.
    let log : List Entry = map arc_value c.args.entries.now in
    absurd (unviewed log c.args.map.now c.args.pg c.args.view.now g (sym (c.in_default.ensures.value (incs_of log) is.map_is)) is)

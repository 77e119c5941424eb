use Rattle.std.proofs.Common.{◌≡◌, List, not, ap, sym, ◌∙◌}
use Rattle.pgp_code.specs.AnyCode.{enough_of, is_by_place}
use Rattle.pgp_ids.specs.declared.entry.Entry.{Entry}
use Rattle.pgp_group.specs.Entries.{incs_of}
use Rattle.pgp_group.specs.GroupLog.{GroupLog}
use Rattle.pgp_reasons.specs.GroupWays.{is_down_with}
use Rattle.pgp_reasons.specs.Reasons.{IsViewed}
use Rattle.pgp_reasons.specs.Ways.{is_relieved}
use Rattle.pgp_reasons.proofs.ReasonsLemmas.{asked-is, viewed-asked, unviewed}
use Rattle.pgp_reasons.proofs.WayLemmas.{brought_back}
use Rattle.pgp_reasons.proofs.relief.unblocks.Goals as goal

pub returns : goal.returns
returns c =
    let each : (log : List Entry) (g : GroupLog) → IsViewed log c.args.map.now c.args.pg c.args.view.now g
    → not c.is_group_down.result ≡ not (is_down_with c.args.starts.now c.args.losses.now g) = λ log g is.
    let asked = viewed-asked log c.args.map.now c.args.pg c.args.view.now g c.in-Some.pool (sym (c.in-Some.ensures.value (incs_of log) is.map_is)) is in
    ap not c.is_group_down.ensures ∙ rw c.as_slice.ensures
    (asked-is (λ code status lost view. is_relieved (enough_of code) (is_by_place code) status view.les view.intervals c.args.starts.now c.args.losses.now)
    g c.of_pool-code.result c.args.map.now c.args.view.now (asked.code_is ∙ sym c.of_pool-code.ensures) asked.map_is asked.view_is) in
    record {
      as_defined = each;
      by_next_map = λ log g after inc is next goes. each log g is ∙ ap not (sym (brought_back c.args.starts.now c.args.losses.now g after inc next goes));
    }

pub returns-in_default : goal.returns-in_default
returns-in_default c =
    let none = λ (log : List Entry) (g : GroupLog) (is : IsViewed log c.args.map.now c.args.pg c.args.view.now g).
    unviewed log c.args.map.now c.args.pg c.args.view.now g (sym (c.in_default.ensures.value (incs_of log) is.map_is)) is in
    record { as_defined = λ log g is. absurd (none log g is); by_next_map = λ log g after inc is next goes. absurd (none log g is) }

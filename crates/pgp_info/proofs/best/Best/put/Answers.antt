use Rattle.std.proofs.Common.{arith, rules, ◌≡◌, List, not, ap, ◌∙◌}
use Rattle.std.proofs.lemmas.Fn.{filter_same}
use Rattle.pgp_ids.specs.Member.{is_same_member}
use Rattle.pgp_ids.specs.declared.report.Info.{Info}
use Rattle.pgp_info.specs.Heard.{without}
use Rattle.pgp_info.proofs.LeadLemmas.{led_left, led_put}
use Rattle.pgp_info.proofs.best.Best.put.Goals as goal

pub invariant_of-self-2 : goal.invariant_of-self-2
invariant_of-self-2 g c =
    let better = g.P.Prefer.better c.self.inside.prefer in
    let info : Info = c.args.info in
    let old : List Info = c.self.inside.infos.items in
    let left : List Info = c.as_slice.result.now in
    let kept : c.retain.new.self.items ≡ without info.member c.reserve.new.self.items =
    filter_same _ (λ other. not (is_same_member other.member c.args.info.member)) _ (λ x b f' k. search rules) _ _ c.retain.ensures.filtered in
    let is : left ≡ without info.member old = c.as_slice.ensures.value ∙ kept ∙ ap (without info.member) c.reserve.ensures.items in
    led_put better info old left c.push_reserved.new.self.items c.left_by-others.result c.joined_by-self-inside.result c.self.invariant.distinct
    (led_left better info.member old left c.self.inside.lead c.left_by-others.result c.self.invariant is c.left_by-others.ensures) is (grind arith) c.joined_by-self-inside.ensures

pub returns-clause-ok : goal.returns-clause-ok
returns-clause-ok g c =
    let info : Info = c.args.info in
    let kept : c.retain.new.self.items ≡ without info.member c.reserve.new.self.items =
    filter_same _ (λ other. not (is_same_member other.member c.args.info.member)) _ (λ x b f' k. search rules) _ _ c.retain.ensures.filtered in
    grind (arith, kept)

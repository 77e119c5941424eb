use Rattle.std.proofs.Common.{arith, rules, ◌≡◌, List, not, ◌∙◌, subst}
use Rattle.std.proofs.lemmas.Fn.{filter_same}
use Rattle.pgp_ids.specs.Member.{is_same_member}
use Rattle.pgp_ids.specs.declared.report.Info.{Info}
use Rattle.pgp_info.specs.Heard.{without}
use Rattle.pgp_info.specs.Lead.{AreLed}
use Rattle.pgp_info.proofs.LeadLemmas.{led_left}
use Rattle.pgp_info.proofs.best.Best.drop_member.Goals as goal

pub invariant_of-self : goal.invariant_of-self
invariant_of-self g c =
    let better = g.P.Prefer.better c.self.inside.prefer in
    let kept : c.retain.new.self.items ≡ without c.args.member.now c.self.inside.infos.items = filter_same _ (λ info. not (is_same_member info.member c.args.member.now)) _ (λ x b f' k. search rules) _ _ c.retain.ensures.filtered in
    subst (λ (infos : List Info). AreLed better infos c.left_by-self-inside.result) c.as_slice.ensures.value
    (led_left better c.args.member.now c.self.inside.infos.items c.as_slice.result.now c.self.inside.lead c.left_by-self-inside.result c.self.invariant (c.as_slice.ensures.value ∙ kept) c.left_by-self-inside.ensures)

pub returns : goal.returns
returns g c =
    let kept : c.retain.new.self.items ≡ without c.args.member.now c.self.inside.infos.items = filter_same _ (λ info. not (is_same_member info.member c.args.member.now)) _ (λ x b f' k. search rules) _ _ c.retain.ensures.filtered in
    grind (arith, kept)

use Rattle.std.proofs.Common.{◌≡◌, [], true, false, cond, ap, sym, ◌∙◌}
use Rattle.pgp_ids.specs.declared.verdict.Verdict.TheVariants.{Down}
use Rattle.pgp_ids.specs.declared.view.View.{View}
use Rattle.pgp_group.specs.Peering.{prior}
use Rattle.pgp_whole.specs.Summary.{has_verdict}
use Rattle.pgp_whole.proofs.group_sums.blockers_of.Goals as goal

pub returns-then-has_verdict : goal.returns-then-has_verdict
returns-then-has_verdict c = λ g is.
    let down : has_verdict Down g ≡ true = sym (c.has_verdict.ensures g is) ∙ c.if-has_verdict.true in
    c.as_slice.ensures ∙ ap (λ (v : View). v.blocked_by) is ∙ sym (ap (λ b. cond b (prior g).blocked_by []) down)

pub returns-else-has_verdict : goal.returns-else-has_verdict
returns-else-has_verdict c = λ g is.
    let other : has_verdict Down g ≡ false = sym (c.has_verdict.ensures g is) ∙ c.if-has_verdict.false in
    sym (ap (λ b. cond b (prior g).blocked_by []) other)

use Rattle.std.proofs.Common.{◌≡◌, ℕ, ℤ, FitsSigned, rules, arith, sym, ◌∙◌}
use Rattle.std.specs.Int.{w32}
use Rattle.std.proofs.lemmas.Int.{to_z-of_z}
use Rattle.pgp_crush.specs.declared.descent.Step.{Step}
use Rattle.pgp_crush.specs.declared.descent.Descent.TheVariants.{Found}
use Rattle.pgp_crush.specs.declared.level.Level.TheVariants.{End}
use Rattle.pgp_crush.specs.Bucket.{bucket_of}
use Rattle.pgp_crush.specs.Descent.{step_of}
use Rattle.pgp_crush.proofs.DescentLemmas.{bucket_at-id}
use Rattle.pgp_crush.proofs.level.level_by.Goals as goal

found_item : (item : ℤ) (r : ℕ) (step : Step) → End (Found (step_of item r)) ≡ End (Found step) → step.item ≡ item
found_item item r step e = cc

pub returns-then-kind-eq0-clause-item : goal.returns-then-kind-eq0-clause-item
returns-then-kind-eq0-clause-item g c step e =
    let fits : FitsSigned w32 c.choose-item.result = search rules in
    let same : step.item ≡ c.choose-item.result = found_item _ _ step e ∙ to_z-of_z w32 c.choose-item.result fits in
    rw (same ∙ c.choose-item.ensures) (g.met.C.Chooser.chooses_item c.args.chooser.now c.args.x c.args.r c.requires)

pub returns-in-Some-clause-item : goal.returns-in-Some-clause-item
returns-in-Some-clause-item g c step e =
    let fits : FitsSigned w32 c.choose-item.result = search rules in
    let same : step.item ≡ c.choose-item.result = found_item _ _ step e ∙ to_z-of_z w32 c.choose-item.result fits in
    rw (same ∙ c.choose-item.ensures) (g.met.C.Chooser.chooses_item c.args.chooser.now c.args.x c.args.r c.requires)

pub returns-in-Some-2-clause-next : goal.returns-in-Some-2-clause-next
returns-in-Some-2-clause-next g c next e =
    let fits : FitsSigned w32 c.choose-item.result = search rules in
    let at = sym (simp to_z-of_z at c.in-Some.ensures.value) in
    let same : next.now.id ≡ c.choose-item.result = grind (arith, bucket_at-id c.args.tree.now c.choose-item.result (bucket_of c.in-Some.next.now) at) in
    rw (same ∙ c.choose-item.ensures) (g.met.C.Chooser.chooses_item c.args.chooser.now c.args.x c.args.r c.requires)

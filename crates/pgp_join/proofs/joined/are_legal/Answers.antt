use Rattle.std.proofs.Common.{◌≡◌, ◌+◌, ◌++◌, ◌∷◌, [], None, ap, sym, ◌∙◌, map, take, arith, rules, subst}
use Rattle.std.specs.Arc.{arc_value}
use Rattle.std.proofs.lemmas.Grind.{common_steps}
use Rattle.std.proofs.lemmas.List.{map-append}
use Rattle.pgp_log.specs.Fits.{fits}
use Rattle.pgp_log.specs.Judge.{IsJudgeOf, OfItsLog}
use Rattle.pgp_join.proofs.joined.are_legal.Goals as goal

pub loop-entry-preserved : goal.loop-entry-preserved
loop-entry-preserved c =
    let entry = c.entry-item.result in
    let before = take c.loop-entry.entry-index c.args.entries.now in
    let log = map arc_value before in
    let more : take (c.loop-entry.entry-index + 1) c.args.entries.now ≡ before ++ entry ∷ [] = grind (arith, common_steps) in
    let value : c.deref-in-Ok.result.now ≡ arc_value entry = search rules in
    let fit : fits log (arc_value entry) ≡ None = search rules in
    let taken : OfItsLog c.loop-entry.judge (λ l. fits l c.deref-in-Ok.result.now ≡ None → IsJudgeOf (l ++ c.deref-in-Ok.result.now ∷ []) c.take.new.self) = search rules in
    subst (λ l. IsJudgeOf l c.take.new.self)
    (ap (λ e. log ++ e ∷ []) value ∙ sym (map-append arc_value before (entry ∷ [])) ∙ ap (map arc_value) (sym more))
    (taken log c.loop-entry.invariant (ap (fits log) value ∙ fit))

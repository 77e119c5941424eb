use Rattle.pgp_log.proofs.Common.{◌≡◌, ℕ, [], ◌∷◌, ◌++◌, List, ap, ◌∙◌, weighed, DeviceWeight}
use Rattle.pgp_log.proofs.MapBeforeLemmas.{noted-more}
use Rattle.pgp_log.proofs.before.weights_before.Goals as goal

pub loop-given-preserved : goal.loop-given-preserved
loop-given-preserved c = λ incs is.
    let given : DeviceWeight = c.given-item.result in
    let new : DeviceWeight = record { osd = given.osd; weight = c.weight.result } in
    let now : List DeviceWeight = c.loop-given.weights.items in
    let pushed : c.push.new.self.items ≡ now ++ new ∷ [] = c.in_ok-push.ensures.items in
    pushed ∙ noted-more (weighed incs) [] now c.args.all.now c.loop-given.given-index given new
    c.loop-given-test.true c.given-item.is (ap (λ (w : ℕ). record { osd = given.osd; weight = w }) (c.weight.ensures incs is)) (c.loop-given.invariant incs is)

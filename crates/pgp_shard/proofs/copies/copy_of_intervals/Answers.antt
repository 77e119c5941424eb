use Rattle.pgp_shard.proofs.Common.{◌≡◌, [], ◌∷◌, ◌++◌, List, ap₂, sym, ◌∙◌, take_all}
use Rattle.std.proofs.lemmas.List.{take_more}
use Rattle.pgp_ids.specs.declared.past.Past.{Past}
use Rattle.pgp_shard.proofs.copies.copy_of_intervals.Goals as goal

pub loop-interval-preserved : goal.loop-interval-preserved
loop-interval-preserved c =
    let here : Past = c.interval-item.result in
    let pushed : c.push.new.self.items ≡ c.loop-interval.copy.items ++ c.copy.result ∷ [] = c.in_ok-push.ensures.items in
    pushed ∙ ap₂ (λ (l : List Past) (x : Past). l ++ x ∷ []) c.loop-interval.invariant (c.copy.ensures ∙ c.interval-item.is)
    ∙ sym (take_more c.args.intervals.now c.loop-interval.interval-index here c.loop-interval-test.true)

pub returns : goal.returns
returns c = c.from_vec.ensures ∙ c.loop-interval.invariant ∙ take_all c.loop-interval.interval-index c.args.intervals.now c.loop-interval-test.false

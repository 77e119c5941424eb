use Rattle.std.proofs.Common.{◌≡◌, ℕ, ◌+◌, ◌++◌, List, [], ◌∷◌, take, map, sym, ap, ◌∙◌, subst}
use Rattle.std.specs.List.{All}
use Rattle.std.proofs.lemmas.List.{map-append, take_all, take_more}
use Rattle.std.proofs.lemmas.List.Elements.{All-push}
use Rattle.pgp_group_words.specs.declared.outcome.Outcome.{Outcome}
use Rattle.pgp_whole.specs.Advice.{AreOutcomes, IsOutcomeOfChoice, choice_of}
use Rattle.pgp_whole.specs.declared.choice.Choice.{Choice}
use Rattle.pgp_whole.proofs.advice.outcomes_of.Goals as goal

pub loop-choice-preserved : goal.loop-choice-preserved
loop-choice-preserved c = λ viewed.
    let i : ℕ = c.loop-choice.choice-index in
    let choices : List Choice = c.args.choices.now in
    let is : Outcome → Type 0 = IsOutcomeOfChoice c.args.log.now c.args.pg.now c.args.offset in
    let was = c.loop-choice.invariant viewed in
    let more : take (i + 1) choices ≡ take i choices ++ c.choice-item.result ∷ [] =
    take_more choices i c.choice-item.result c.loop-choice-test.true ∙ ap (λ choice. take i choices ++ choice ∷ []) (sym c.choice-item.is) in
    record {
      choices_are = ap (map choice_of) c.in_ok-push.ensures.ok
          ∙ map-append choice_of c.loop-choice.outcomes (c.in_ok-outcome.outcome ∷ [])
          ∙ (λ k. was.choices_are k ++ c.in_ok-outcome.ensures.choice k ∷ [])
          ∙ sym more;
      each = subst (All is) (sym c.in_ok-push.ensures.ok) (All-push is c.loop-choice.outcomes c.in_ok-outcome.outcome was.each (c.in_ok-outcome.ensures.is viewed));
    }

pub returns : goal.returns
returns c = λ viewed.
    subst (λ (choices : List Choice). AreOutcomes c.args.log.now c.args.pg.now c.args.offset choices c.loop-choice.outcomes)
    (take_all c.loop-choice.choice-index c.args.choices.now c.loop-choice-test.false) (c.loop-choice.invariant viewed)

use Rattle.std.proofs.Common.{◌≡◌, List, Option, IfSome, map, ap, ◌∙◌, subst}
use Rattle.pgp_ids.specs.declared.entry.Entry.{Entry}
use Rattle.pgp_group_words.specs.declared.explanation.Explanation.{Explanation}
use Rattle.pgp_whole.specs.Advice.{all_start, told_sets}
use Rattle.pgp_whole.specs.Explained.{IsExplainedBy}
use Rattle.pgp_whole.proofs.advice.advice_of.Goals as goal

pub returns-clause-some : goal.returns-clause-some
returns-clause-some c =
    let log : List Entry = c.args.log.now in
    let same : c.explanation_of.new.log ≡ log = c.in_ok-explanation.ensures.same in
    let explained : IsExplainedBy log c.args.pg.now c.in-Some.explanation =
    subst (λ (found : Option Explanation). IfSome found (IsExplainedBy log c.args.pg.now)) c.in-Some.is c.in_ok-explanation.ensures.some in
    let sets : c.as_slice-sets.result.now ≡ told_sets c.in-Some.explanation.reasons.ways = c.as_slice-sets.ensures.value ∙ c.in_ok-sets.ensures in
    let choices = c.as_slice.ensures.value ∙ c.in_ok-choices.ensures ∙ ap (map all_start) sets in
    record {
      explained = explained;
      ways_are = (rw (same, choices) at c.in_ok-ways.ensures) explained.view_is;
      resorts_are = (rw (same, sets) at c.in_ok-last_resort.ensures) explained.view_is;
    }

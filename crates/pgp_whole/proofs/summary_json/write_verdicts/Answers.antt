use Rattle.std.proofs.Common.{◌∙◌, sym, refl, append-nil}
use Rattle.pgp_text.specs.Written.{fields_tokens}
use Rattle.pgp_whole.proofs.FieldLemmas.{fields_more}
use Rattle.pgp_whole.proofs.summary_json.write_verdicts.Goals as goal

pub loop-verdict-init : goal.loop-verdict-init
unfolding fields_tokens
loop-verdict-init c = (sym (append-nil c.args.out.now.tokens), refl)

pub loop-verdict-preserved : goal.loop-verdict-preserved
loop-verdict-preserved c = (
  fields_more _ _ _ _ _ _ _ c.loop-verdict-test.true c.loop-verdict.invariant.0 c.in_ok-write_verdict.ensures.ok,
  c.in_ok-write_verdict.ensures.before ∙ c.loop-verdict.invariant.1,
)

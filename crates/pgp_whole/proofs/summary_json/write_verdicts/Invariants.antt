use Rattle.std.proofs.Common.{◌≡◌, ◌++◌, take, flat_map}
use Rattle.pgp_text.specs.Written.{fields_tokens}
use Rattle.pgp_whole.specs.SummaryText.{verdict_field}
use Rattle.pgp_whole.proofs.summary_json.write_verdicts.Given as goal

abbrev pub invariant-loop-verdict : goal.invariant-loop-verdict
invariant-loop-verdict l =
    (l.out.tokens ≡ l.initial.out.tokens ++ fields_tokens (flat_map (verdict_field l.summary.verdicts) (take l.verdict-index l.verdicts)))
    × (l.out.before ≡ l.initial.out.before)

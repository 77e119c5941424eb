use Rattle.std.proofs.Common.{◌≡◌, ◌++◌, take, flat_map, string_bytes}
use Rattle.pgp_whole.specs.SummaryText.{verdict_line}
use Rattle.pgp_whole.proofs.summary_words.put_verdicts.Given as goal

abbrev pub invariant-loop-verdict : goal.invariant-loop-verdict
invariant-loop-verdict l = string_bytes l.text ≡ string_bytes l.initial.text ++ flat_map (verdict_line l.summary.verdicts) (take l.verdict-index l.verdicts)

use Rattle.std.proofs.Common.{◌≡◌, ◌++◌, drop, map}
use Rattle.pgp_compact.specs.Needed.{chosen}
use Rattle.pgp_whole.specs.Remaining.{text_of_lines}
use Rattle.pgp_whole.proofs.compact.text_of.Given as goal

abbrev pub invariant-loop-place : goal.invariant-loop-place
invariant-loop-place l =
    l.text.items ++ text_of_lines (chosen (drop l.place l.choices) (drop l.place (map (λ line. line.now) l.lines))) ≡ text_of_lines (chosen l.choices (map (λ line. line.now) l.lines))

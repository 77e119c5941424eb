use Rattle.std.proofs.Common.{◌≡◌, ◌++◌, drop}
use Rattle.pgp_reasons.proofs.GapLemmas.{left_above}
use Rattle.pgp_reasons.proofs.gaps.runs_beside.Given as goal

-- the runs so far, with what is left to find, are all
abbrev pub invariant-loop-number : goal.invariant-loop-number
invariant-loop-number l =
    l.gaps.items ++ left_above l.reached (drop l.number-index l.numbers) l.last ≡ left_above l.tail l.numbers l.last

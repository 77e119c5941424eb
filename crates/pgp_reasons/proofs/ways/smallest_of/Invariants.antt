use Rattle.std.proofs.Common.{◌≡◌, ◌+◌, ◌≤◌, [], length}
use Rattle.pgp_reasons.specs.kept.Looks.{looks_below, most_looks}
use Rattle.pgp_reasons.specs.Smallest.{most_sets}
use Rattle.pgp_reasons.proofs.WalkLemmas.{smallest_below}
use Rattle.pgp_reasons.proofs.ways.smallest_of.Given as goal

abbrev pub invariant-loop-size : goal.invariant-loop-size
invariant-loop-size g l = record {
  found : l.found.sets ≡ smallest_below (g.E.Enough.enough l.judge) l.among l.size;
  none : l.chosen.items ≡ [];
  few : length l.found.sets ≤ most_sets;
  counted : most_looks ≤ l.found.looks + looks_below (length l.among) l.size;
}

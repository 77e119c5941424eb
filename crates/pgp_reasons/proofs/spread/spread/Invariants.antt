use Rattle.std.proofs.Common.{◌≡◌, ℕ, ◌<◌, ◌≤◌, List, false, length, take}
use Rattle.std.specs.List.{Contains}
use Rattle.pgp_reasons.specs.Smallest.{most_sets, smallest, AllHave}
use Rattle.pgp_reasons.proofs.SpreadLemmas.{without}
use Rattle.pgp_reasons.proofs.spread.spread.Given as goal

abbrev pub invariant-loop-osd : goal.invariant-loop-osd
invariant-loop-osd g l = record {
  some : (set : List ℕ) → Contains l.sets set → Contains (smallest (g.E.Enough.enough l.judge) l.among) set;
  one : 0 < length l.sets;
  bound : length l.sets ≤ most_sets;
  seen : (osd : ℕ) → Contains (take l.osd-index l.among) osd → length l.sets < most_sets → AllHave l.sets osd → g.E.Enough.enough l.judge (without osd l.among) ≡ false;
}

use Rattle.std.proofs.Common.{◌≡◌, ◌+◌, ◌<◌, ◌≤◌}
use Rattle.pgp_crush.specs.Choice.{traced_back}
use Rattle.pgp_crush.proofs.uniform.uniform_place.Given as goal

abbrev pub invariant-loop-exchanges : goal.invariant-loop-exchanges
invariant-loop-exchanges l = record {
  within : l.place < l.count;
  left : l.exchanges ≤ l.last + 1;
  same : traced_back l.x l.id l.count (l.last + 1) l.last ≡ traced_back l.x l.id l.count l.exchanges l.place;
}

abbrev pub decreases-loop-exchanges : goal.decreases-loop-exchanges
decreases-loop-exchanges l = l.exchanges

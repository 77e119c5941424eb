use Rattle.std.proofs.Common.{arith}
use Rattle.pgp_tables.proofs.Common.{write_steps}
use Rattle.pgp_tables.proofs.temps.put_all.Goals as goal

pub loop-given-preserved : goal.loop-given-preserved
loop-given-preserved c = record {
  after = λ q. grind (arith, write_steps, c.loop-given.invariant.after q, c.set_list.ensures.after q);
  kept = λ q had. c.set_list.ensures.kept q (c.loop-given.invariant.kept q had);
}

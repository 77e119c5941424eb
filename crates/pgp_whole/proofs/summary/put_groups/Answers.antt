use Rattle.std.proofs.Common.{append_assoc, arith}
use Rattle.std.proofs.lemmas.Grind.{common_steps}
use Rattle.std.proofs.lemmas.List.FromFn.{map-range_with_len_more}
use Rattle.pgp_whole.specs.Summary.{group_of}
use Rattle.pgp_whole.proofs.summary.put_groups.Goals as goal

pub loop-pg-preserved : goal.loop-pg-preserved
loop-pg-preserved c =
    grind (arith, common_steps, map-range_with_len_more (group_of c.args.id) 0 c.loop-pg.pg c.loop-pg.pg (omega arith), append_assoc)

use Rattle.std.proofs.Common.{ap, ◌∙◌}
use Rattle.pgp_group.specs.Entries.{incs_of}
use Rattle.pgp_shard.proofs.RunningLemmas.{opening-reads}
use Rattle.pgp_core.specs.Counts.{counts_of}
use Rattle.pgp_core.proofs.log.Log.of.Goals as goal

pub invariant_of-result : goal.invariant_of-result
invariant_of-result c = record {
  counts_are = c.of-counts.ensures ∙ ap counts_of c.entries.ensures.entries;
  shard_is = rw c.start.ensures (opening-reads c.args.log 1 0);
  raw_sets = c.new.ensures (incs_of c.args.log);
}

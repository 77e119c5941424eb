use Rattle.pgp_shard.proofs.OsdFilterLemmas.{least-of}
use Rattle.pgp_shard.proofs.osd_filter.OsdFilter.shares.Goals as goal

pub returns : goal.returns
returns c = rw (c.min-2.ensures, c.min.ensures) (least-of _ _ _)

use Rattle.pgp_hash.proofs.StableModLemmas.{mask_of_more}
use Rattle.pgp_hash.proofs.groups.mask_of.Goals as goal

pub returns : goal.returns
returns c = mask_of_more c.args.groups c.if-groups-le1.false c.ranges.groups.fits

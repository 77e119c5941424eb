use Rattle.std.proofs.Common.{◌≡◌, List, None, sym, subst}
use Rattle.std.specs.Arc.{arc_value}
use Rattle.pgp_ids.specs.declared.entry.Entry.{Entry}
use Rattle.pgp_log.specs.Fits.{fits}
use Rattle.pgp_engine.proofs.shard.ShardStateFollower.take_next.Goals as goal

pub absorb-requires : goal.absorb-requires
absorb-requires c = subst (λ (l : List Entry). fits l (arc_value c.args.entry.now) ≡ None) (sym c.requires.is) c.requires.fits

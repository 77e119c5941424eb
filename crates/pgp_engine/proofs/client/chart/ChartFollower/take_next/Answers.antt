use Rattle.std.proofs.Common.{◌≡◌, None, sym, subst}
use Rattle.pgp_ids.specs.declared.entry.Entry.{Entry}
use Rattle.pgp_log.specs.Fits.{fits}
use Rattle.pgp_engine.proofs.client.chart.ChartFollower.take_next.Goals as goal

pub take-requires : goal.take-requires
take-requires c = record {
  log = c.requires.log;
  is = c.requires.is.judge_is;
  fits = subst (λ (e : Entry). fits c.requires.log e ≡ None) (sym c.deref.ensures) c.requires.fits;
}

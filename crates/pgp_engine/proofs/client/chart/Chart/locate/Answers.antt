use Rattle.pgp_feed.specs.Receipts.{entries_of}
use Rattle.pgp_group.specs.Entries.{incs_of}
use Rattle.pgp_log.proofs.LogLemmas.{legal-checked}
use Rattle.pgp_engine.proofs.client.chart.Chart.locate.Goals as goal

pub locate-requires : goal.locate-requires
locate-requires c =
    let log = entries_of c.args.at in
    let judge_is = c.requires.judge_is in record {
      incs = incs_of log;
      is = c.map-map.ensures log judge_is;
      checked = legal-checked log judge_is.legal;
    }

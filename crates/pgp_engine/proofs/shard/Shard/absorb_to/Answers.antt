use Rattle.std.proofs.Common.{refl, ap, sym, ◌∙◌, subst}
use Rattle.pgp_log.specs.Log.{is_legal, IsFrontOf}
use Rattle.pgp_feed.specs.Receipts.{entries_of}
use Rattle.pgp_engine.specs.Shards.{Reader}
use Rattle.pgp_engine.proofs.FrontLemmas.{front_legal, receipt_legal}
use Rattle.pgp_engine.proofs.shard.Shard.absorb_to.Goals as goal

pub bring-read-requires-clause-follows : goal.bring-read-requires-clause-follows
bring-read-requires-clause-follows g c = record {
  taken = c.self.inside.state.front;
  is_front = subst (λ (s : Reader). IsFrontOf s.front (entries_of c.args.target.now)) (sym c.self.view_is) c.requires.more;
  is = refl;
}

pub returns-clause-legal : goal.returns-clause-legal
returns-clause-legal g c =
    let here = c.bring-read.ensures.within in
    ap is_legal here.is ∙ front_legal here.taken (entries_of c.args.target.now) here.is_front (receipt_legal c.args.target.now)

use Rattle.pgp_shard.proofs.Common.{◌∙◌, nat_eq, sym, subst, arith, eqb-true, Covers}
use Rattle.pgp_shard.proofs.OsdFilterLemmas.{covers-all, covers-more}
use Rattle.pgp_shard.proofs.osd_filter.OsdFilter.add_all.Goals as goal

pub loop-osd-preserved : goal.loop-osd-preserved
loop-osd-preserved c =
    let item = c.osd-item.result in
    record {
      there = covers-more nat_eq c.args.osds.now c.loop-osd.osd-index item (Covers c.loop-osd.self) (Covers c.add.new.self) c.loop-osd-test.true c.add.ensures.still
          (λ osd is. subst (Covers c.add.new.self) (sym (eqb-true osd _ is ∙ sym c.osd-item.is)) c.add.ensures.there) c.loop-osd.invariant.there;
      still = λ osd is. c.add.ensures.still osd (c.loop-osd.invariant.still osd is);
    }

pub returns-clause-there : goal.returns-clause-there
returns-clause-there c = covers-all nat_eq c.args.osds.now c.loop-osd.osd-index (Covers c.loop-osd.self) (omega (arith, c.loop-osd-test.false)) c.loop-osd.invariant.there

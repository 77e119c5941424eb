use Rattle.pgp_shard.proofs.Common.{◌∙◌, nat_eq, sym, ap, subst, arith, eqb-true, DeviceWeight, Covers}
use Rattle.pgp_shard.proofs.OsdFilterLemmas.{covers-all, covers-more}
use Rattle.pgp_shard.proofs.osd_filter.OsdFilter.add_weighed.Goals as goal

pub loop-given-preserved : goal.loop-given-preserved
loop-given-preserved c =
    let item = c.given-item.result in
    record {
      there = covers-more (λ osd (given : DeviceWeight). nat_eq osd given.osd) c.args.all.now c.loop-given.given-index item (Covers c.loop-given.self) (Covers c.add.new.self) c.loop-given-test.true c.add.ensures.still
          (λ osd is. subst (Covers c.add.new.self) (sym (eqb-true osd _ is ∙ ap (λ (given : DeviceWeight). given.osd) (sym c.given-item.is))) c.add.ensures.there) c.loop-given.invariant.there;
      still = λ osd is. c.add.ensures.still osd (c.loop-given.invariant.still osd is);
    }

pub returns-clause-there : goal.returns-clause-there
returns-clause-there c = covers-all (λ osd (given : DeviceWeight). nat_eq osd given.osd) c.args.all.now c.loop-given.given-index (Covers c.loop-given.self) (omega (arith, c.loop-given-test.false)) c.loop-given.invariant.there

use Rattle.pgp_shard.proofs.Common.{◌∙◌, nat_eq, sym, ap, subst, arith, eqb-true, DeviceEpoch, Covers}
use Rattle.pgp_shard.proofs.OsdFilterLemmas.{covers-all, covers-more}
use Rattle.pgp_shard.proofs.osd_filter.OsdFilter.add_dated.Goals as goal

pub loop-told-preserved : goal.loop-told-preserved
loop-told-preserved c =
    let item = c.told-item.result in
    record {
      there = covers-more (λ osd (told : DeviceEpoch). nat_eq osd told.osd) c.args.all.now c.loop-told.told-index item (Covers c.loop-told.self) (Covers c.add.new.self) c.loop-told-test.true c.add.ensures.still
          (λ osd is. subst (Covers c.add.new.self) (sym (eqb-true osd _ is ∙ ap (λ (told : DeviceEpoch). told.osd) (sym c.told-item.is))) c.add.ensures.there) c.loop-told.invariant.there;
      still = λ osd is. c.add.ensures.still osd (c.loop-told.invariant.still osd is);
    }

pub returns-clause-there : goal.returns-clause-there
returns-clause-there c = covers-all (λ osd (told : DeviceEpoch). nat_eq osd told.osd) c.args.all.now c.loop-told.told-index (Covers c.loop-told.self) (omega (arith, c.loop-told-test.false)) c.loop-told.invariant.there

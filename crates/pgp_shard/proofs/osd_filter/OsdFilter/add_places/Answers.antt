use Rattle.pgp_shard.proofs.Common.{◌≡◌, ℕ, Option, Some, true, nat_eq, sym, subst, arith, option_eq, Covers}
use Rattle.pgp_shard.proofs.OsdFilterLemmas.{covers-all, covers-more}
use Rattle.pgp_shard.proofs.osd_filter.OsdFilter.add_places.Goals as goal

pub loop-place-preserved : goal.loop-place-preserved
loop-place-preserved c =
    record {
      there = covers-more (λ osd. option_eq nat_eq (Some osd)) c.args.places.now c.loop-place.place-index c.place-item.result (Covers c.loop-place.self) (Covers c.add_place.new.self) c.loop-place-test.true c.add_place.ensures.still
          (λ osd is. c.add_place.ensures.there osd (subst (λ (place : Option ℕ). option_eq nat_eq (Some osd) place ≡ true) (sym c.place-item.is) is)) c.loop-place.invariant.there;
      still = λ osd is. c.add_place.ensures.still osd (c.loop-place.invariant.still osd is);
    }

pub returns-clause-there : goal.returns-clause-there
returns-clause-there c = covers-all (λ osd. option_eq nat_eq (Some osd)) c.args.places.now c.loop-place.place-index (Covers c.loop-place.self) (omega (arith, c.loop-place-test.false)) c.loop-place.invariant.there

use Rattle.std.proofs.Common.{◌≡◌, ℕ, List, false, take, sym, subst, inl, inr, arith}
use Rattle.std.specs.List.{Contains}
use Rattle.std.proofs.lemmas.List.{take_all}
use Rattle.pgp_group.proofs.Lists.{contains-push, take-next}
use Rattle.pgp_reasons.specs.Smallest.{AllHave}
use Rattle.pgp_reasons.proofs.SpreadLemmas.{all-seen, without}
use Rattle.pgp_reasons.proofs.spread.spread.Goals as goal

pub loop-osd-preserved : goal.loop-osd-preserved
loop-osd-preserved g c = record {
  some = c.in_ok-add_without.ensures.some c.loop-osd.invariant.some;
  one = omega (arith, c.loop-osd.invariant.one, c.in_ok-add_without.ensures.longer);
  bound = c.in_ok-add_without.ensures.bound c.loop-osd.invariant.bound;
  seen = λ osd in' below all. elim (contains-push (take c.loop-osd.osd-index c.args.among.now) c.osd-item.result osd (subst (λ (l : List ℕ). Contains l osd) (take-next c.args.among.now c.loop-osd.osd-index c.osd-item.result c.loop-osd-test.true c.osd-item.is) in')) [
    | inl before ↦ c.loop-osd.invariant.seen osd before (omega (arith, below, c.in_ok-add_without.ensures.longer)) (λ set there. all set (c.in_ok-add_without.ensures.kept set there))
    | inr now ↦ subst (λ (o : ℕ). g.E.Enough.enough c.args.judge.now (without o c.args.among.now) ≡ false) now (c.in_ok-add_without.ensures.common below (subst (AllHave c.add_without.new.sets) (sym now) all))
  ];
}

pub returns : goal.returns
returns g c =
    let all : take c.loop-osd.osd-index c.args.among.now ≡ c.args.among.now = take_all c.loop-osd.osd-index c.args.among.now (omega arith) in
    record {
      some = c.loop-osd.invariant.some;
      one = c.loop-osd.invariant.one;
      bound = c.loop-osd.invariant.bound;
      common = λ below osd have.
          all-seen (g.E.Enough.enough c.args.judge.now) (g.met.E.Enough.monotone c.args.judge.now) c.args.among.now c.loop-osd.sets c.loop-osd.invariant.one c.loop-osd.invariant.some
          (λ o in'. c.loop-osd.invariant.seen o (subst (λ (l : List ℕ). Contains l o) (sym all) in')) below osd have;
    }

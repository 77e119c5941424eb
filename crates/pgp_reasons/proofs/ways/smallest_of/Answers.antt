use Rattle.std.proofs.Common.{◌≡◌, ◌+◌, [], ◌++◌, true, false, length, ap, sym, ◌∙◌, subst, arith, append-nil}
use Rattle.pgp_reasons.specs.Smallest.{smallest_with, AreWays}
use Rattle.pgp_reasons.proofs.LookLemmas.{next-size}
use Rattle.pgp_reasons.proofs.SetLemmas.{none-enough}
use Rattle.pgp_reasons.proofs.WalkLemmas.{said-is, size-begins, none-again, many-at, smallest_below, listed-all, listed-more, listed-some}
use Rattle.pgp_reasons.proofs.ways.smallest_of.Goals as goal

pub returns-then-not-is_enough : goal.returns-then-not-is_enough
returns-then-not-is_enough g c =
    let enough = g.E.Enough.enough c.args.judge.now in
    let short : enough c.args.among.now ≡ false = said-is enough (c.args.among.now ++ []) c.args.among.now c.is_enough.result false (append-nil c.args.among.now) c.is_enough.ensures c.if-not-is_enough.true in
    subst (AreWays enough c.args.among.now) (sym c.no_ways.ensures)
    (listed-all enough c.args.among.now [] (sym (none-enough enough (g.met.E.Enough.monotone c.args.judge.now) c.args.among.now short)) (omega arith))

pub any_of-requires : goal.any_of-requires
any_of-requires g c =
    said-is (g.E.Enough.enough c.args.judge.now) (c.args.among.now ++ []) c.args.among.now c.is_enough.result true (append-nil c.args.among.now) c.is_enough.ensures c.if-not-is_enough.false

pub spread-requires : goal.spread-requires
spread-requires g c =
    said-is (g.E.Enough.enough c.args.judge.now) (c.args.among.now ++ []) c.args.among.now c.is_enough.result true (append-nil c.args.among.now) c.is_enough.ensures c.if-not-is_enough.false

pub returns-then-not-branch : goal.returns-then-not-branch
returns-then-not-branch g c =
    let enough = g.E.Enough.enough c.args.judge.now in
    listed-some enough c.args.among.now c.in_ok-spread.field-0 c.in_ok-spread.ensures
    (many-at enough c.args.among.now c.loop-size.size c.walk.new.self.looks (c.loop-size.found.sets ++ smallest_with enough c.loop-size.chosen.items c.loop-size.size c.args.among.now) c.walk.new.self.sets
    c.loop-size-test.true
    (size-begins enough c.loop-size.chosen.items c.args.among.now c.loop-size.size c.loop-size.found.sets c.loop-size.invariant.found c.loop-size.invariant.none)
    (next-size (length c.args.among.now) c.loop-size.size (length c.loop-size.chosen.items) c.loop-size.found.looks c.walk.new.self.looks
    (ap length c.loop-size.invariant.none) c.loop-size.invariant.counted c.in_ok-walk.ensures.counted)
    (c.in_ok-walk.ensures.stopped c.if-not-branch.true))

pub loop-size-preserved : goal.loop-size-preserved
loop-size-preserved g c =
    let enough = g.E.Enough.enough c.args.judge.now in
    let here = smallest_with enough c.loop-size.chosen.items c.loop-size.size c.args.among.now in
    record {
      found = listed-more {whole = c.in_ok-walk.field-0} c.loop-size.found.sets here (smallest_below enough c.args.among.now (c.loop-size.size + 1)) c.walk.new.self.sets c.if-not-branch.false
          (size-begins enough c.loop-size.chosen.items c.args.among.now c.loop-size.size c.loop-size.found.sets c.loop-size.invariant.found c.loop-size.invariant.none) c.in_ok-walk.ensures.found;
      none = none-again c.walk.new.chosen.items c.loop-size.chosen.items c.in_ok-walk.ensures.chosen c.loop-size.invariant.none;
      few = c.in_ok-walk.ensures.bound c.loop-size.invariant.few;
      counted = next-size (length c.args.among.now) c.loop-size.size (length c.loop-size.chosen.items) c.loop-size.found.looks c.walk.new.self.looks
          (ap length c.loop-size.invariant.none) c.loop-size.invariant.counted c.in_ok-walk.ensures.counted;
    }

pub returns : goal.returns
returns g c =
    let enough = g.E.Enough.enough c.args.judge.now in
    let done : c.loop-size.size ≡ length c.args.among.now + 1 = omega arith in
    listed-all enough c.args.among.now c.loop-size.found.sets
    (c.loop-size.invariant.found ∙ ap (smallest_below enough c.args.among.now) done) c.loop-size.invariant.few

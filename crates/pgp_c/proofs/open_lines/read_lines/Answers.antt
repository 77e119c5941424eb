use Rattle.std.proofs.Common.{◌≡◌, ◌<◌, [], ◌∷◌, length, arith, rules, subst}
use Rattle.pgp_core.specs.Lines.{lines_of}
use Rattle.pgp_c.proofs.OpenLemmas.{IsReadUpTo, read-all, read-next}
use Rattle.pgp_c.proofs.open_lines.read_lines.Goals as goal

pub loop-line-preserved : goal.loop-line-preserved
loop-line-preserved c =
    let lines : lines_of c.loop-line.rest.now ≡ c.in-Some.line.now ∷ lines_of c.in-Some.others.now = search rules in
    let shorter : length c.in-Some.others.now < length c.loop-line.rest.now = search rules in
    record {
      read = read-next c.args.session.now c.loop-line.session c.read_line.new.session (lines_of c.args.text.now) (lines_of c.in-Some.others.now) c.in-Some.line.now
          c.in_ok-more.more c.loop-line.refused _
          (subst (λ ls. IsReadUpTo c.args.session.now c.loop-line.session (lines_of c.args.text.now) ls c.loop-line.refused) lines c.loop-line.invariant.read)
          c.in_ok-more.ensures.refused c.in_ok-more.ensures.log c.in_ok-more.ensures.answer c.in_ok-more.ensures.format (search rules);
      few = omega (arith, c.loop-line.invariant.few, shorter, c.one_if-refused.ensures.few);
    }

pub returns : goal.returns
returns c =
    let none : lines_of c.loop-line.rest.now ≡ [] = search rules in
    read-all c.args.session.now c.loop-line.session (lines_of c.args.text.now) c.loop-line.refused
    (subst (λ ls. IsReadUpTo c.args.session.now c.loop-line.session (lines_of c.args.text.now) ls c.loop-line.refused) none c.loop-line.invariant.read)

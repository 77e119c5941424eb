use Rattle.std.proofs.Common.{◌≡◌, ◌+◌, ◌<◌, [], ◌∷◌, ◌++◌, ◌∙◌, ap, drop, length, subst, sym, append-nil, arith, length-append, length-take, rules}
use Rattle.std.proofs.lemmas.Bool.Decides.{nat_tests}
use Rattle.std.proofs.lemmas.List.{nil_from_length, take_rest}
use Rattle.pgp_core.specs.Lines.{cut}
use Rattle.pgp_core.specs.declared.fault.ScriptFault.TheVariants.{Read, Write}
use Rattle.pgp_core.specs.declared.input.Bounds.{Bounds}
use Rattle.pgp_core.specs.Telling.{IsStopped}
use Rattle.pgp_core.specs.kept.Progress.{IsAfterBytes, StopsIn}
use Rattle.pgp_core.proofs.RunLemmas.{after-line, after-piece, full, line-front, line_of_cut, passed_on, piece-front, regroup, regroup_line, stopped-after, taken-more}
use Rattle.pgp_core.proofs.script.Script.take.Goals as goal

pub returns-in_err-flush-clause-err : goal.returns-in_err-flush-clause-err
returns-in_err-flush-clause-err g c =
    passed_on _ _ _ _ c.from_residual.ensures.1
    (λ start bytes so_far.
    let taken = c.loop-rest.invariant.taken in
    let rest = c.loop-rest.rest.now in
    subst (StopsIn g.A.Answerer.alone start Write _) (regroup bytes taken.done rest c.args.chunk.now taken.whole)
    (record {
      stopped = stopped-after Write g.A.Answerer.alone start c.loop-rest.self _ _ _ (bytes ++ taken.done) rest (taken.goes start bytes so_far) (λ gone. absurd cc)
          c.in_err-flush.ensures.err (λ read. absurd cc);
      beyond = λ read. absurd cc;
    }))

pub returns-then-is_full-clause-err : goal.returns-then-is_full-clause-err
returns-then-is_full-clause-err g c start bytes so_far =
    let taken = c.loop-rest.invariant.taken in
    let here = taken.goes start bytes so_far in
    let rest = c.loop-rest.rest.now in
    let some : 0 < length rest = grind (arith, nat_tests) in
    let ends = full start c.loop-rest.self.input (bytes ++ taken.done) rest here.read (c.is_full.ensures.0 c.if-is_full.true) some in
    subst (StopsIn g.A.Answerer.alone start Read _) (regroup bytes taken.done rest c.args.chunk.now taken.whole)
    (record {
      stopped = stopped-after Read g.A.Answerer.alone start c.loop-rest.self _ _ _ (bytes ++ taken.done) rest here (λ gone. absurd cc) c.in_ok-flush.ensures.ok (λ _. ends.0);
      beyond = λ _. ends.1;
    })

pub returns-in_err-put_answer-in-Some-clause-err : goal.returns-in_err-put_answer-in-Some-clause-err
returns-in_err-put_answer-in-Some-clause-err g c =
    passed_on _ _ _ _ c.from_residual-in_err-put_answer-in-Some.ensures.1
    (λ start bytes so_far.
    let taken = c.loop-rest.invariant.taken in
    let here = taken.goes start bytes so_far in
    let piece = c.in-Some.piece.now in
    let rest = c.loop-rest.rest.now in
    let read = bytes ++ taken.done in
    let parts = line-front _ rest c.allowed-allowed.result.now piece _ c.allowed-allowed.ensures c.in-Some.ensures.whole in
    let room : 0 < c.loop-rest.self.input.left.lines = search rules in
    let fits : length piece < c.loop-rest.self.input.left.bytes =
    omega (arith, ap length c.in-Some.ensures.whole, length-append piece (10 ∷ c.in-Some.field-0-1.now), ap length c.allowed-allowed.ensures, length-take c.loop-rest.self.input.left.bytes rest) in
    let stop = c.in_err-put_answer-in-Some.ensures.err (cut read).rest here.read.line start (cut read).whole _ here.format here.answered in
    subst (StopsIn g.A.Answerer.alone start _ _) (regroup_line bytes taken.done rest c.args.chunk.now piece _ taken.whole parts)
    (record {
      stopped = subst (IsStopped g.A.Answerer.alone start _ _)
          (sym (line_of_cut start c.loop-rest.self.input read piece (drop (length piece + 1) rest) c.in-Some.ensures.one_line room fits here.read)) stop.1;
      beyond = λ read. absurd (stop.0 read);
    }))

pub loop-rest-preserved-in-Some : goal.loop-rest-preserved-in-Some
loop-rest-preserved-in-Some g c =
    let invariant = c.loop-rest.invariant in
    let piece = c.in-Some.piece.now in
    let rest = c.loop-rest.rest.now in
    let put = c.in_ok-put_answer-in-Some.ensures in
    let parts = line-front _ rest c.allowed-allowed.result.now piece _ c.allowed-allowed.ensures c.in-Some.ensures.whole in
    let after_end = c.end_line.ensures.left in
    let same : c.put_answer.new.self.input.left.bytes ≡ c.loop-rest.self.input.left.bytes = ap (λ (left : Bounds). left.bytes) put.left in
    let long = ap length parts ∙ length-append (piece ++ 10 ∷ []) _ in
    let few = length-take c.loop-rest.self.input.left.bytes rest in
    record {
      left = omega (arith, long, length-append piece (10 ∷ []), after_end, same, few, ap length c.allowed-allowed.ensures, ap length c.in-Some.ensures.whole, length-append piece (10 ∷ c.in-Some.field-0-1.now), invariant.left);
      kept = put.failed ∙ invariant.kept;
      taken = rw take_rest (taken-more _ _ _ _ _ _ _ _ _ _ _ _ (piece ++ 10 ∷ []) _ invariant.taken parts
          (λ start bytes. after-line g.A.Answerer.alone start c.loop-rest.self c.put_answer.new.self c.end_line.new.self _ _ _ _ bytes piece c.in-Some.ensures.one_line put.format put.left c.end_line.ensures.read put.ok));
    }

pub loop-rest-preserved : goal.loop-rest-preserved
loop-rest-preserved g c =
    let invariant = c.loop-rest.invariant in
    let allowed = c.allowed-allowed.result.now in
    let parts = piece-front _ c.loop-rest.rest.now allowed c.allowed-allowed.ensures in
    let long = ap length parts ∙ length-append allowed _ in
    let after_add = c.add.ensures.left in
    let few = ap length c.allowed-allowed.ensures ∙ length-take _ c.loop-rest.rest.now in
    record {
      left = omega (arith, after_add, long, few, invariant.left);
      kept = invariant.kept;
      taken = rw take_rest (taken-more _ _ _ _ _ _ _ _ _ _ _ _ allowed _ invariant.taken parts
          (λ start bytes. after-piece g.A.Answerer.alone start c.loop-rest.self c.add.new.self _ _ bytes allowed c.in-None.ensures.none c.add.ensures.read));
    }

pub returns-clause-ok : goal.returns-clause-ok
returns-clause-ok g c start bytes so_far =
    let taken = c.loop-rest.invariant.taken in
    let none : c.loop-rest.rest.now ≡ [] = nil_from_length c.loop-rest.rest.now (grind (arith, nat_tests)) in
    subst (IsAfterBytes g.A.Answerer.alone start c.loop-rest.self _ _)
    (ap (λ l. bytes ++ l) (sym (append-nil taken.done) ∙ ap (λ l. taken.done ++ l) (sym none) ∙ taken.whole)) (taken.goes start bytes so_far)

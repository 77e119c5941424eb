use Rattle.std.proofs.Common.{◌≡◌, ◌≢◌, ◌++◌, [], ◌∷◌, Option, Some, None, refl, subst, append_assoc}
use Rattle.pgp_core.specs.Telling.{IsStopped}
use Rattle.pgp_core.specs.declared.fault.ScriptFault.TheVariants.{Write}
use Rattle.pgp_core.proofs.RunLemmas.{cut_off, passed_on, told-line, went-on}
use Rattle.pgp_core.proofs.script.Script.put_answer.Goals as goal

none_there : {X : Type 0} (r : Option X) → ((x : X) → r ≢ Some x) → r ≡ None
none_there None never = refl
none_there (Some x) never = absurd (never x refl)

pub returns-clause-ok : goal.returns-clause-ok
returns-clause-ok g c line holds start lines same so_far =
    went-on g.A.Answerer.alone start _ _ _ _ _ _
    (told-line g.A.Answerer.alone start _ _ _ lines (line ++ c.args.piece.now) _ _ _ _ same so_far (c.in-Some.ensures.put line holds)) c.in_ok-put.ensures.ok

pub returns-in_err-put-clause-err : goal.returns-in_err-put-clause-err
returns-in_err-put-clause-err g c =
    passed_on _ _ _ _ c.from_residual-in_err-put.ensures.1
    (λ line holds start lines others same so_far.
    let all = line ++ c.args.piece.now in
    let told = told-line g.A.Answerer.alone start _ _ _ lines all _ _ _ _ same so_far (c.in-Some.ensures.put line holds) in (
      λ read. cc,
      subst (IsStopped g.A.Answerer.alone start Write _) (append_assoc lines (all ∷ []) others) (cut_off g.A.Answerer.alone start (lines ++ all ∷ []) others _ _ _ _ told c.in_err-put.ensures.err),
    ))

pub returns-in_err-flush-clause-err : goal.returns-in_err-flush-clause-err
returns-in_err-flush-clause-err g c =
    let kept = c.answer-answer.ensures.text (none_there _ c.in_default.not-Some) in
    passed_on _ _ _ _ c.from_residual.ensures.1
    (λ line holds start lines others same so_far. (λ read. cc, cut_off g.A.Answerer.alone start lines _ _ _ _ _ so_far (rw kept at c.in_err-flush.ensures.err)))

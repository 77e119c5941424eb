use Rattle.std.proofs.KnownBytes.{Keeps-refl}
use Rattle.pgp_core.specs.declared.fault.ScriptFault.TheVariants.{Read, Write}
use Rattle.pgp_core.proofs.RunLemmas.{passed_on}
use Rattle.pgp_core.proofs.TurnLemmas.{turn, stops_at_read, stops_in_chunk}
use Rattle.pgp_core.proofs.script.Script.read_on.Goals as goal

pub returns-in_err-flush-clause-err : goal.returns-in_err-flush-clause-err
returns-in_err-flush-clause-err g c =
    passed_on _ _ _ _ c.from_residual.ensures.1
    (λ start from reads. stops_at_read Write g.A.Answerer.alone start c.args.self.now _ _ _ _ _ _ _ (λ gone. cc) reads c.in_err-flush.ensures.err (Keeps-refl _) (λ read. cc))

pub returns-in-Err-clause-err : goal.returns-in-Err-clause-err
returns-in-Err-clause-err g c start from reads =
    stops_at_read Read g.A.Answerer.alone start c.args.self.now _ _ _ _ _ _ _ (λ gone. cc) reads c.in_ok-flush.ensures.ok c.in-Err.ensures.bytes (λ read. c.in-Err.ensures.failed)

pub returns-in_err-take-clause-err : goal.returns-in_err-take-clause-err
returns-in_err-take-clause-err g c =
    passed_on _ _ _ _ c.from_residual-in_err-take.ensures.1
    (λ start from reads.
    stops_in_chunk _ start _ c.args.self.now c.flush.new.self _ _ _ _ _ _ _ _ _ reads c.in_ok-flush.ensures.ok c.in_ok-flush.ensures.empty c.in-Ok.ensures.bytes.0
    c.in_err-take.ensures.err)

pub returns-clause-ok : goal.returns-clause-ok
returns-clause-ok g c start from reads =
    turn _ start c.args.self.now _ c.flush.new.self _ _ _ _ _ _ _ _ _ reads c.in_ok-flush.ensures.ok c.in_ok-flush.ensures.empty c.in-Ok.ensures.bytes.0 c.in_ok-take.ensures.ok

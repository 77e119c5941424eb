use Rattle.std.proofs.Common.{subst}
use Rattle.pgp_core.specs.WrittenFor.{MayLack}
use Rattle.pgp_core.proofs.LineLemmas.{puts-text}
use Rattle.pgp_core.proofs.WrittenLemmas.{written-want}
use Rattle.pgp_core.proofs.line.answer_bytes.Goals as goal

pub returns-in-Ok-clause-put : goal.returns-in-Ok-clause-put
returns-in-Ok-clause-put g c some short = puts-text g.A.Answerer.alone _ _ _ c.args.line.now _ _ some c.in-Ok.ensures.ok short

pub returns-in-Err-Memory-clause-put : goal.returns-in-Err-Memory-clause-put
returns-in-Err-Memory-clause-put g c some short =
    let line = c.args.line.now in
    let lack = subst (λ why. MayLack g.A.Answerer.alone c.args.codec.now.reader.format why line) c.in-Err-Memory.field-0-is (c.in-Err-Memory.ensures.lacks some short) in
    rw c.want_line.ensures (written-want g.A.Answerer.alone _ _ _ line _ _ c.in-Err-Memory.want lack c.in-Err-Memory.ensures.log c.in-Err-Memory.ensures.text)

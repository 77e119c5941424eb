use Rattle.std.proofs.Common.{◌≡◌, ◌≤◌, ◌++◌, false, length, refl, subst, sym, ◌∙◌}
use Rattle.std.proofs.lemmas.Option.{IfSome_then}
use Rattle.pgp_core.specs.kept.Line.{KeptBy}
use Rattle.pgp_core.specs.Lines.{is_blank}
use Rattle.pgp_core.specs.Script.{longest_line}
use Rattle.pgp_core.specs.WrittenFor.{PutsLine}
use Rattle.pgp_core.specs.declared.want.Want.TheVariants.{Line}
use Rattle.pgp_core.proofs.LineLemmas.{is-empty, is-long, is-short, puts-blank}
use Rattle.pgp_core.proofs.WrittenLemmas.{by-itself, written-long, written-want}
use Rattle.pgp_core.proofs.line.LineBuffer.answer.Goals as goal

pub returns-then-all_blank-clause-put : goal.returns-then-all_blank-clause-put
returns-then-all_blank-clause-put g c line holds =
    rw (is-empty line (sym holds.started ∙ c.if-not-self.true))
    (puts-blank g.A.Answerer.alone _ _ c.args.text.now.items c.args.piece.now (sym c.all_blank.ensures ∙ c.if-all_blank.true))

pub returns-then-self-clause-put : goal.returns-then-self-clause-put
returns-then-self-clause-put g c line holds =
    puts-blank g.A.Answerer.alone _ _ c.args.text.now.items (line ++ c.args.piece.now) (sym (c.add.ensures line holds).blank ∙ c.if-self.true)

pub returns-in-Kept-clause-put : goal.returns-in-Kept-clause-put
returns-in-Kept-clause-put g c =
    IfSome_then c.answer_bytes-in-Kept.result c.answer_bytes-in-Kept.ensures.put
    (λ rest puts line holds.
    let now = c.add.ensures line holds in
    let kept : (c.add.new.self.bytes.items ≡ line ++ c.args.piece.now) × (length (line ++ c.args.piece.now) ≤ longest_line) =
    subst (λ f. KeptBy f c.add.new.self.bytes.items (line ++ c.args.piece.now)) c.in-Kept.is now.kept in
    (subst (λ l. is_blank l ≡ false → length l ≤ longest_line
    → PutsLine g.A.Answerer.alone c.args.codec.now.reader.format (g.A.Answerer.log c.args.answerer.now) (g.A.Answerer.log c.answer_bytes-in-Kept.new.answerer) l c.args.text.now.items c.answer_bytes-in-Kept.new.text.items rest.now)
    (c.as_slice.ensures.value ∙ kept.0) puts) (sym now.blank ∙ c.if-self.false) kept.1)

pub returns-in-TooLong-clause-put : goal.returns-in-TooLong-clause-put
returns-in-TooLong-clause-put g c line holds =
    rw c.long_line.ensures
    (written-long g.A.Answerer.alone _ _ _ (line ++ c.args.piece.now) _ _ (is-long c.add.new.self c.in-TooLong.is c.if-self.false (line ++ c.args.piece.now) (c.add.ensures line holds)) (by-itself g.A.Answerer.alone _) refl)

pub returns-in-NoMemory-clause-put : goal.returns-in-NoMemory-clause-put
returns-in-NoMemory-clause-put g c line holds =
    rw c.want_line.ensures
    (written-want g.A.Answerer.alone _ _ _ (line ++ c.args.piece.now) _ _ Line (is-short c.add.new.self c.in-NoMemory.length c.in-NoMemory.is c.if-self.false (line ++ c.args.piece.now) (c.add.ensures line holds)) (by-itself g.A.Answerer.alone _) refl)

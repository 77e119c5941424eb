use Rattle.std.proofs.Common.{◌∙◌}
use Rattle.std.proofs.lemmas.Result.{on_ok_weaker}
use Rattle.pgp_whole.proofs.Reading.{read-line}
use Rattle.pgp_whole.proofs.entries.ScriptEntries.take.Goals as goal

pub returns-clause-read : goal.returns-clause-read
returns-clause-read c =
    on_ok_weaker c.note.result
    (λ kept lines rest before.
    read-line c.args.reader.now.format lines rest c.args.line.now c.in_ok-outcome.outcome c.args.self.now c.note.new.self c.in_ok-outcome.ensures.outcome
    (c.note.ensures.log ∙ c.in_ok-outcome.ensures.log) kept before)
    c.note.ensures.lines

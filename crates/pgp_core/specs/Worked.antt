-- For worked examples: a proof that unfolds the one definition here sees all definitions of scripts unfolded, with those of
-- their lines, logs and answers, so that they compute on numerals.
use Rattle.pgp_log.specs.Worked.{logs_computed}
use Rattle.pgp_lines.specs.WorkedLines.{text_computed}

-- nothing but a name for the list below
unfoldable pub scripts_computed : Type 0
unfolding logs_computed text_computed
scripts_computed = Unit {0}

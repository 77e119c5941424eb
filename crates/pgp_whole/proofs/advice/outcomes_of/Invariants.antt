use Rattle.std.proofs.Common.{◌≡◌, take}
use Rattle.std.specs.Prelude.{Some}
use Rattle.pgp_group.specs.View.{scratch}
use Rattle.pgp_whole.specs.Advice.{AreOutcomes}
use Rattle.pgp_whole.proofs.advice.outcomes_of.Given as goal

abbrev pub invariant-loop-choice : goal.invariant-loop-choice
invariant-loop-choice l =
    scratch l.log l.pg ≡ Some l.view → AreOutcomes l.log l.pg l.offset (take l.choice-index l.choices) l.outcomes

use Rattle.pgp_reasons.proofs.WholeWayLemmas.{more-helps}
use Rattle.pgp_reasons.proofs.laws.more_helps.Goals as goal

pub returns : goal.returns
returns c starts losses more_starts more_losses = more-helps starts losses more_starts more_losses

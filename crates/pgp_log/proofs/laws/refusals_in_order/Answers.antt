use Rattle.pgp_log.proofs.FitsLemmas.{fits-closed, fits-own, fits-full, fits-room, fits-close}
use Rattle.pgp_log.proofs.laws.refusals_in_order.Goals as goal

pub returns : goal.returns
returns c = record { closed = fits-closed; own = fits-own; full = fits-full; room = fits-room; close = fits-close }

use Rattle.std.proofs.Common.{◌-◌, length, ap, sym, ◌∙◌, arith}
use Rattle.std.specs.Arc.{arc_value}
use Rattle.pgp_log.proofs.SharedLemmas.{closed-by-last}
use Rattle.pgp_log.specs.Fits.{is_close}
use Rattle.pgp_c.proofs.log.is_closed.Goals as goal

pub returns-in-Some : goal.returns-in-Some
returns-in-Some c =
    let entries = c.args.entries.now in
    let item = c.in-Some.ensures.item in
    c.is_close.ensures ∙ (ap is_close c.deref.ensures
    ∙ sym (closed-by-last arc_value entries (length entries - 1) c.in-Some.last.now c.requires (omega (arith, item.3.0)) item.1))

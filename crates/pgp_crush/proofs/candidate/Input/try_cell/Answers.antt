use Rattle.std.proofs.Common.{FitsSigned, rules, arith}
use Rattle.std.specs.Int.{w32}
use Rattle.std.proofs.lemmas.Int.{to_z-of_z}
use Rattle.pgp_crush.proofs.candidate.Input.try_cell.Goals as goal

pub returns-in-Fit : goal.returns-in-Fit
returns-in-Fit c =
    let fits : FitsSigned w32 c.in-Fit.pick.item = search rules in
    let held = simp to_z-of_z at c.holds_item.ensures in grind arith

pub returns-in-Fit-2 : goal.returns-in-Fit-2
returns-in-Fit-2 c =
    let fits : FitsSigned w32 c.in-Fit.pick.item = search rules in
    let held = rw c.in-Fit-2.pick-is at (simp to_z-of_z at c.holds_item.ensures) in grind arith

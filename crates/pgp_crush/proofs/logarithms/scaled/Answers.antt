use Rattle.std.proofs.Common.{◌≤◌, ◌*◌, ◌-◌, ◌^◌, arith}
use Rattle.pgp_crush.proofs.LogarithmLemmas.{power_small, scaled_bounds}
use Rattle.pgp_crush.proofs.logarithms.scaled.Goals as goal

pub overflow_sub-result : goal.overflow_sub-result
overflow_sub-result c = omega (arith, c.requires.is_power, power_small c.args.x c.requires.some c.requires.within)

pub returns-clause-least : goal.returns-clause-least
returns-clause-least c =
    let within : (2 ^ 15 ≤ c.args.x * 2 ^ (15 - c.args.power)) × (c.args.x * 2 ^ (15 - c.args.power) ≤ 2 ^ 16) =
    rw c.requires.is_power (scaled_bounds c.args.x c.requires.some c.requires.within) in
    omega (arith, within.0, within.1)

pub returns-clause-greatest : goal.returns-clause-greatest
returns-clause-greatest c =
    let within : (2 ^ 15 ≤ c.args.x * 2 ^ (15 - c.args.power)) × (c.args.x * 2 ^ (15 - c.args.power) ≤ 2 ^ 16) =
    rw c.requires.is_power (scaled_bounds c.args.x c.requires.some c.requires.within) in
    omega (arith, within.0, within.1)

use Rattle.std.proofs.Common.{nat_eq, rules, arith, IsSome}
use Rattle.std.specs.HashMap as hash
use Rattle.pgp_tables.proofs.Common.{write_steps}
use Rattle.pgp_tables.proofs.devices.set_device.Goals as goal

pub returns-in-Some-clause-kept : goal.returns-in-Some-clause-kept
returns-in-Some-clause-kept c =
    let there : IsSome (hash.get nat_eq c.args.table.now c.args.osd) = search rules in
    λ q. grind (arith, write_steps, ((c.get_mut.follows.holds c.args.device).3 there).0 q)

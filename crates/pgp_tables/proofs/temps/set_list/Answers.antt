use Rattle.std.proofs.Common.{rules, arith, IsSome}
use Rattle.std.specs.HashMap as hash
use Rattle.pgp_tables.specs.TempTable.{is_same_group}
use Rattle.pgp_tables.proofs.temps.set_list.Goals as goal

pub returns-in-Some-clause-kept : goal.returns-in-Some-clause-kept
returns-in-Some-clause-kept c =
    let there : IsSome (hash.get is_same_group c.args.table.now c.args.given.now.pg) = search rules in
    λ q had. grind (arith, ((c.get_mut.follows.holds c.osds_of.result).3 there).0 q)

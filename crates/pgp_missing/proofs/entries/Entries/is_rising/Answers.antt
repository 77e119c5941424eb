use Rattle.std.proofs.Common.{◌≡◌, true, nat_le, rules, tests}
use Rattle.pgp_missing.proofs.entries.Entries.is_rising.Goals as goal

pub loop-write-preserved : goal.loop-write-preserved
loop-write-preserved c =
    let rises : nat_le c.loop-write.epoch c.in-Some.write.now.epoch ≡ true = search (rules, tests) in
    rw (c.in-Some.ensures.steps, rises) at c.loop-write.invariant

use Rattle.pgp_group.proofs.Common.{◌≡◌, true, false, nat_lt, arith, nat_tests, is_by_place, held_status}
use Rattle.pgp_group.proofs.NotedLemmas.{raised, change-up, change-from_up}
use Rattle.pgp_group.proofs.device_facts.renew.Goals as goal

pub returns-then-after : goal.returns-then-after
returns-then-after c = λ b status is change. c.device_better.ensures.kept b status is (rw c.if-after.true at change)

pub returns-then-before : goal.returns-then-before
returns-then-before c = λ b status is change. c.device_worse.ensures b status is (rw (c.if-after.false, c.if-before.true) at change)

pub returns-then-not-after : goal.returns-then-not-after
returns-then-not-after c = λ b status is change.
    c.device_gone.ensures b status is (rw (c.if-after.false, c.if-before.false, c.if-not-after.true) at change)

pub returns-then-not-before : goal.returns-then-not-before
returns-then-not-before c = λ b status is change.
    let by_place = is_by_place b.code in
    let osd = c.args.after.now.osd in
    let told = held_status c.args.map.now in
    let up = raised osd b.status in
    let again = rw (c.if-after.false, c.if-before.false, c.if-not-after.false, c.if-not-before.true) at change in
    c.device_worse-then-not-before.ensures (record b { status = up }) status
    (c.device_better-then-not-before.ensures.kept b up is (change-up by_place osd told b.status status b.past again _))
    (change-from_up by_place osd told b.status status b.past again)

pub returns-then-lt : goal.returns-then-lt
returns-then-lt c = λ b status is change.
    let less : nat_lt c.args.after.now.lost_at c.args.before.now.lost_at ≡ true = grind (arith, nat_tests) in
    c.device_worse-then-lt.ensures b status is (rw (c.if-after.false, c.if-before.false, c.if-not-after.false, c.if-not-before.false, less) at change)

pub returns-else-lt : goal.returns-else-lt
returns-else-lt c = λ b status is change.
    let more : nat_lt c.args.after.now.lost_at c.args.before.now.lost_at ≡ false = grind (arith, nat_tests) in
    c.device_better-else-lt.ensures.kept b status is (rw (c.if-after.false, c.if-before.false, c.if-not-after.false, c.if-not-before.false, more) at change)

use Rattle.std.proofs.Common.{arith}
use Rattle.pgp_lines.proofs.Keys.{texts, unknown-object}
use Rattle.pgp_lines.proofs.command.objects.unknown_key.Goals as goal

pub loop-key-init : goal.loop-key-init
loop-key-init c =
    let found = c.in_ok-members.ensures in
    (found.0, found.2, unknown-object (texts c.args.keys.now) c.args.value.now found.0 found.1)

pub loop-key-preserved-then-not-is_one_of : goal.loop-key-preserved-then-not-is_one_of
loop-key-preserved-then-not-is_one_of c =
    let now = c.loop-key.invariant in
    let next = c.in-Some.ensures.value now.0 now.1 in
    (next.1, next.4, grind (arith, now.2, next.2))

pub loop-key-preserved : goal.loop-key-preserved
loop-key-preserved c =
    let now = c.loop-key.invariant in
    let next = c.in-Some.ensures.value now.0 now.1 in
    (next.1, next.4, grind (arith, now.2, next.2))

pub returns : goal.returns
returns c =
    let now = c.loop-key.invariant in
    grind (arith, now.2, c.in_default.ensures.value now.0 now.1)

use Rattle.std.proofs.Common.{◌≡◌, ◌<◌, true, false}
use Rattle.std.proofs.lemmas.List.Elements.{All-rest}
use Rattle.pgp_ids.specs.declared.member.Member.{Member}
use Rattle.pgp_prior.proofs.SlotLemmas.{with_slot-is}
use Rattle.pgp_reasons.specs.Fates.{holds_still}
use Rattle.pgp_reasons.proofs.fates.add_held.Goals as goal

pub loop-member-preserved-then-is_held : goal.loop-member-preserved-then-is_held
loop-member-preserved-then-is_held g c =
    let status = g.S.StatusOf.status_of c.args.statuses.now c.in-Some.member.osd c.args.interval.now.first in
    let held : holds_still c.args.away status ≡ true = rw (← c.status.ensures, ← c.is_held.ensures) c.if-is_held.true in
    let left = rw (c.in-Some.ensures.steps, held) at c.loop-member.invariant.2 in (
      tt,
      tt,
      rw (c.with-slots.ensures, with_slot-is c.in-Some.member.slot c.loop-member.slots) left,
      All-rest (λ (member : Member). member.slot < 16) c.in-Some.member c.next.new.self _ c.in-Some.ensures.steps c.loop-member.invariant.3,
    )

pub loop-member-preserved : goal.loop-member-preserved
loop-member-preserved g c =
    let status = g.S.StatusOf.status_of c.args.statuses.now c.in-Some.member.osd c.args.interval.now.first in
    let left' : holds_still c.args.away status ≡ false = rw (← c.status.ensures, ← c.is_held.ensures) c.if-is_held.false in
    let left = rw (c.in-Some.ensures.steps, left') at c.loop-member.invariant.2 in
    (tt, tt, left, All-rest (λ (member : Member). member.slot < 16) c.in-Some.member c.next.new.self _ c.in-Some.ensures.steps c.loop-member.invariant.3)

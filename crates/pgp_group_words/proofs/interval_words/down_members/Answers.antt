use Rattle.std.proofs.Common.{◌≡◌, ◌++◌, ◌∷◌, [], true, false, ap, sym, ◌∙◌, append_assoc}
use Rattle.std.specs.List.{filter}
use Rattle.pgp_reasons.specs.Smallest.{holds}
use Rattle.pgp_group_words.proofs.interval_words.down_members.Goals as goal

pub loop-member-preserved-in-Continue-1 : goal.loop-member-preserved-in-Continue-1
loop-member-preserved-in-Continue-1 c =
    let down = c.args.interval.now.down in
    let member = c.in-Some.member in
    let has : holds down member.osd ≡ true = ap (λ osds. holds osds member.osd) (sym c.as_slice.ensures) ∙ sym c.is_one_of.ensures ∙ c.if-is_one_of.true in
    let left = rw (c.in-Some.ensures.steps, has) at c.loop-member.invariant.2 in (
      tt,
      tt,
      ap (λ items. items ++ filter (λ m. holds down m.osd) c.next.new.self) c.in_ok-push.ensures.items
          ∙ append_assoc c.loop-member.members.items (member ∷ []) (filter (λ m. holds down m.osd) c.next.new.self) ∙ left,
    )

pub loop-member-preserved : goal.loop-member-preserved
loop-member-preserved c =
    let none : holds c.args.interval.now.down c.in-Some.member.osd ≡ false = ap (λ osds. holds osds c.in-Some.member.osd) (sym c.as_slice.ensures) ∙ sym c.is_one_of.ensures ∙ c.if-is_one_of.false in
    (tt, tt, rw (c.in-Some.ensures.steps, none) at c.loop-member.invariant.2)

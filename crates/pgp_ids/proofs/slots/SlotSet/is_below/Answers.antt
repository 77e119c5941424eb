use Rattle.std.proofs.Common.{◌≡◌, ◌-◌, true, ◌∙◌, ap, arith, sym, leb, nat_lt}
use Rattle.std.proofs.lemmas.Bool.Decides.{nat_tests}
use Rattle.std.proofs.lemmas.Nat.{one_shl}
use Rattle.pgp_ids.specs.SlotSet.{is_below}
use Rattle.pgp_ids.specs.SlotBits.{is_set, slots_of}
use Rattle.pgp_ids.proofs.SlotLemmas.{below-range, limit-range}
use Rattle.pgp_ids.proofs.slots.SlotSet.is_below.Goals as goal

pub returns-then-limit-ge-SLOT_LIMIT : goal.returns-then-limit-ge-SLOT_LIMIT
unfolding slots_of
returns-then-limit-ge-SLOT_LIMIT c =
    let reaches : leb 32 c.args.limit ≡ true = grind (arith, nat_tests) in
    reaches ∙ sym (below-range 32 0 c.args.limit (is_set c.self.inside.bits) (omega arith)) ∙ ap (is_below c.args.limit) c.self.view_is

pub returns-else-limit-ge-SLOT_LIMIT : goal.returns-else-limit-ge-SLOT_LIMIT
unfolding slots_of
returns-else-limit-ge-SLOT_LIMIT c =
    ap (nat_lt c.self.inside.bits) (one_shl c.args.limit 32 c.if-limit-ge-SLOT_LIMIT.false)
    ∙ limit-range (32 - c.args.limit) c.args.limit 32 c.self.inside.bits (omega arith) c.self.invariant
    ∙ ap (is_below c.args.limit) c.self.view_is

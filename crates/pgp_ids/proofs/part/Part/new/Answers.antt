use Rattle.std.proofs.Common.{◌||◌, [], take, take_all, get_or, ap, ap₂, sym, ◌∙◌, arith}
use Rattle.std.proofs.lemmas.List.Sums.{fold_more}
use Rattle.pgp_ids.specs.SlotSet.{with_slot, has_slot}
use Rattle.pgp_ids.proofs.PartLemmas.{has_slot-set_of, has_twice_more}
use Rattle.pgp_ids.proofs.part.Part.new.Goals as goal

pub loop-slot-preserved : goal.loop-slot-preserved
loop-slot-preserved c =
    let slots = c.args.slots.now in
    let i = c.loop-slot.slot-index in
    let slot = get_or slots i 0 in
    record {
      set_is =
          c.with-set.ensures
          ∙ ap (with_slot slot) c.loop-slot.invariant.set_is
          ∙ sym (fold_more (λ set slot. with_slot slot set) [] slots i 0 c.loop-slot-test.true);
      twice_is =
          ap₂ ◌||◌ c.loop-slot.invariant.twice_is
          (c.has-twice.ensures ∙ ap (has_slot slot) c.loop-slot.invariant.set_is ∙ has_slot-set_of slot (take i slots))
          ∙ sym (has_twice_more slots i c.loop-slot-test.true);
    }

pub returns-clause-members : goal.returns-clause-members
returns-clause-members c = λ slot.
    let slots = c.args.slots.now in
    ap (has_slot slot) c.loop-slot.invariant.set_is ∙ has_slot-set_of slot (take c.loop-slot.slot-index slots)
    ∙ ap (has_slot slot) (take_all c.loop-slot.slot-index slots (omega (arith, c.loop-slot-test.false)))

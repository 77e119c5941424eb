-- The slots of members are a set of slots.
use Rattle.std.proofs.Common.{◌≡◌, ℕ, List, [], ◌∷◌, true, nat_eq, nat_lt, map, refl, arith}
use Rattle.std.specs.List.{Contains}
use Rattle.std.proofs.lemmas.Bool.{ltb-true, eq-eqb}
use Rattle.std.proofs.lemmas.Bool.Decides.{nat_tests}
use Rattle.pgp_ids.specs.SlotSet.{IsSlotSet, with_slot, is_within}
use Rattle.pgp_ids.specs.declared.member.Member.{Member}
use Rattle.pgp_lists.specs.Ordered.{IsAscending, with_item}
use Rattle.pgp_lists.proofs.Members.{Contains-here, Contains-later, contains-any}
use Rattle.pgp_lists.proofs.Ordered.{nat_order, IsAscending-ascending}
use Rattle.pgp_lists.proofs.Pairs.{AllPairs-rest}
use Rattle.pgp_prior.specs.Members.{member_slots}

-- a set with one slot more is the ascending list with it
pub with_slot-is : (slot : ℕ) (slots : List ℕ) → with_slot slot slots ≡ with_item nat_lt slot slots
with_slot-is slot [] = refl
with_slot-is slot (t ∷ slots) = grind (arith, nat_tests, with_slot-is slot slots)

IsSlotSet-ascending : (slots : List ℕ) → IsAscending nat_lt slots → IsSlotSet slots
IsSlotSet-ascending [] ascends = tt
IsSlotSet-ascending (s ∷ []) ascends = tt
IsSlotSet-ascending (s ∷ t ∷ slots) ascends = (
  ltb-true s t (ascends 0 1 s (omega arith) (omega arith)),
  IsSlotSet-ascending (t ∷ slots) (AllPairs-rest (λ x y. nat_lt x y ≡ true) s (t ∷ slots) ascends),
)

pub IsSlotSet-slots_of : (members : List Member) → IsSlotSet (member_slots members)
IsSlotSet-slots_of members = IsSlotSet-ascending (member_slots members) (IsAscending-ascending nat_lt nat_order (map (λ (member : Member). member.slot) members))

pub is_within-each : (slots others : List ℕ) → ((k : ℕ) → Contains slots k → Contains others k) → is_within slots others ≡ true
is_within-each [] others each = refl
is_within-each (s ∷ slots) others each =
    rw (contains-any (nat_eq s) others s (each s (Contains-here s slots)) (eq-eqb s s refl), is_within-each slots others (λ k in'. each k (Contains-later s slots k in'))) refl

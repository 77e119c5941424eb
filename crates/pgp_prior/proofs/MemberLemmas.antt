-- The members that are left of a list of devices, and their slots.
use Rattle.std.proofs.Common.{◌≡◌, ℕ, zero, suc, ◌+◌, ◌-◌, ◌<◌, ◌≤◌, List, Option, Some, None, Bool, refl, option_map, slice_index_or, get_or, length, arith}
use Rattle.std.specs.List.{All, filter_map, range_with_len, cons_option}
use Rattle.std.specs.Bool.{if◌then◌else◌}
use Rattle.std.proofs.lemmas.List.Elements.{All-nil, All-cons}
use Rattle.pgp_ids.specs.declared.member.Member.{Member}
use Rattle.pgp_prior.specs.Members.{held_member}

-- what stands at a place, and the members of the places that follow
pub next-place : (by_place : Bool) (places : List (Option ℕ)) (place : ℕ) (found : Option ℕ) → place < length places → get_or places place None ≡ found
    → filter_map (held_member by_place places) (range_with_len place (length places - place))
    ≡ cons_option (option_map (λ osd. let m : Member = record { osd = osd; slot = if by_place then place else 0 } in m) found)
    (filter_map (held_member by_place places) (range_with_len (place + 1) (length places - (place + 1))))
next-place by_place places place found below held =
    let one : length places - place ≡ suc (length places - (place + 1)) = omega arith in
    rw (one, held) refl

-- the slots are places of the list
slot-within : (by_place : Bool) (place limit : ℕ) (rest : List Member) → place < limit → All (λ member. member.slot < limit) rest → (found : Option ℕ) → All (λ member. member.slot < limit) (cons_option (option_map (λ osd. let m : Member = record { osd = osd; slot = if by_place then place else 0 } in m) found) rest)
slot-within by_place place limit rest low all None = all
slot-within by_place place limit rest low all (Some osd) = All-cons (λ (member : Member). member.slot < limit) _ rest (grind arith) all

pub members-slots : (by_place : Bool) (places : List (Option ℕ)) (place n limit : ℕ) → place + n ≤ limit → All (λ member. member.slot < limit) (filter_map (held_member by_place places) (range_with_len place n))
members-slots by_place places place zero limit low = All-nil (λ (member : Member). member.slot < limit)
members-slots by_place places place (suc n) limit low =
    slot-within by_place place limit _ (omega arith) (members-slots by_place places (place + 1) n limit (omega arith)) (slice_index_or places place None)

use Rattle.std.proofs.Common.{◌≡◌, ◌<◌, ◌≤◌, ◌+◌, ℕ, List, [], ◌∷◌, ◌++◌, length, take, set, Option, Some, None, option_and_then, refl, sym, ap, ◌∙◌, arith, append_assoc, length-append}
use Rattle.std.proofs.Math.Seq.{set-append_seam, take-append_seam}
use Rattle.std.proofs.lemmas.List.Elements.{All-append}
use Rattle.pgp_ids.specs.Parts.{set_of, has_twice}
use Rattle.pgp_ids.specs.declared.part.Part.{Part}
use Rattle.serde_json.specs.Data.{Data}
use Rattle.pgp_lines.specs.Shapes.{pair_in}
use Rattle.pgp_lines.specs.Groups.{slots_in, part_from}
use Rattle.pgp_lines.specs.Ids.{slot_in, byte_in}
use Rattle.pgp_lines.specs.Value.{view, items_left}
use Rattle.pgp_lines.proofs.Walks.{list_after-next, list_after-end}
use Rattle.pgp_lines.proofs.command.groups.read_part.Goals as goal

-- one slot more is put behind those that were found
next_slot : (found rest slots : List ℕ) (count slot : ℕ) → length found ≡ count → count + length rest ≡ 16 → count < 16 → slots ≡ found ++ rest
    → (more : List ℕ) × (count + 1 + length more ≡ 16) × (set slots count slot ≡ (found ++ slot ∷ []) ++ more)
next_slot found [] slots count slot ends room below is = absurd (omega (arith, room, below))
next_slot found (y ∷ ys) slots count slot ends room below is =
    let here = ap (λ list. set list count slot) is ∙ ap (λ n. set (found ++ y ∷ ys) n slot) (sym ends) in
    (ys, omega (arith, room), here ∙ set-append_seam found y ys slot ∙ sym (append_assoc found (slot ∷ []) ys))

-- a part by its fields
made : (part : Part) (least : ℕ) (slots : List ℕ) → part.slots ≡ set_of slots → part.least ≡ least → part.twice ≡ has_twice slots → part ≡ part_from least slots
made part least slots is_set is_least is_twice = rw (sym is_set, sym is_least, sym is_twice) refl

-- the slots that were found, in the array
taken : (found rest slots : List ℕ) (count : ℕ) → length found ≡ count → slots ≡ found ++ rest → take count slots ≡ found
taken found rest slots count ends is = ap (take count) is ∙ ap (λ n. take n (found ++ rest)) (sym ends) ∙ take-append_seam found rest

-- the part of a list of its slots and its least number
part_made : (pair : Option (Data × Data)) (slots : List ℕ) (least : ℕ) → option_and_then (λ p. slots_in p.0) pair ≡ Some slots → option_and_then (λ p. byte_in p.1) pair ≡ Some least
    → option_and_then (λ p. option_and_then (λ found. option_and_then (λ n. Some (part_from n found)) (byte_in p.1)) (slots_in p.0)) pair ≡ Some (part_from least slots)
part_made None slots least has_slots has_least = absurd cc
part_made (Some p) slots least has_slots has_least = rw (has_slots, has_least) refl

pub loop-item-init : goal.loop-item-init
loop-item-init c =
    ([], _, refl, refl, refl, λ k d below. absurd (omega (arith, below)), grind arith)

pub loop-item-preserved : goal.loop-item-preserved
loop-item-preserved c =
    let now = c.loop-item.invariant in
    let slot = c.in_ok-slots.field-0 in
    let more = next_slot now.0 now.1 c.loop-item.slots c.loop-item.count slot now.2 now.3 (grind arith) now.4 in
    let longer : length (now.0 ++ slot ∷ []) ≡ c.loop-item.count + 1 = omega (arith, now.2, length-append now.0 (slot ∷ [])) in
    let has : slot_in (view c.in-Some.item) ≡ Some slot = grind arith in
    let walk = now.6 ∙ list_after-next slot_in 0 16 now.0 slot (view c.in-Some.item) (items_left c.next.new.self) (items_left c.loop-item.items) c.in-Some.ensures.more has in
    (now.0 ++ slot ∷ [], more.0, longer, more.1, more.2, All-append (λ s. s < 16) now.0 (slot ∷ []) now.5 (grind arith), walk)

pub returns : goal.returns
returns c =
    let now = c.loop-item.invariant in
    let all = taken now.0 now.1 c.loop-item.slots c.loop-item.count now.2 now.4 in
    let within : length now.0 ≤ 16 = omega (arith, now.2, now.3) in
    let walk = now.6 ∙ list_after-end slot_in 0 16 now.0 _ c.in_default.ensures.end (omega arith) within in
    let part = made c.new.result c.in_ok-least.least now.0 (c.new.ensures.slots ∙ ap set_of all) c.new.ensures.least (c.new.ensures.twice ∙ ap has_twice all) in
    let least : option_and_then (λ p. byte_in p.1) (pair_in (view c.args.value.now)) ≡ Some c.in_ok-least.least = grind arith in
    ap Some part ∙ sym (part_made (pair_in (view c.args.value.now)) now.0 c.in_ok-least.least walk least)

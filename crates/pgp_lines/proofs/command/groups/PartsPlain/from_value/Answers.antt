use Rattle.std.proofs.Common.{◌≡◌, ◌<◌, ◌≤◌, ◌+◌, ◌-◌, ℕ, suc, List, [], ◌∷◌, ◌++◌, length, map, set, Option, Some, None, option_map, refl, sym, ap, ◌∙◌, arith, append_assoc, length-append}
use Rattle.std.proofs.Math.ListN.{replicate}
use Rattle.std.proofs.Math.Seq.{set-append_seam}
use Rattle.std.proofs.lemmas.List.{map-append, length-map}
use Rattle.pgp_ids.specs.declared.part.Part.{Part}
use Rattle.pgp_lines.specs.Groups.{part_in, parts_by_place, groups_in}
use Rattle.pgp_lines.specs.Value.{view, items_left}
use Rattle.pgp_lines.proofs.Walks.{list_after, list_after-next, list_after-end}
use Rattle.pgp_lines.proofs.command.groups.PartsPlain.from_value.Goals as goal

abbrev full : List Part → List (Option Part)
full parts = map (λ part. Some part) parts

-- the first empty place, where there is one
opened : (found : List Part) → length found < 16 → parts_by_place found ≡ full found ++ None ∷ replicate (15 - length found) None
opened found below =
    let one : 16 - length found ≡ suc (15 - length found) = omega (arith, below) in
    ap (λ n. full found ++ replicate n None) one

-- one part more stands in the first empty place
next_part : (found : List Part) (groups : List (Option Part)) (count : ℕ) (part : Part) → length found ≡ count → count < 16 → groups ≡ parts_by_place found
    → set groups count (Some part) ≡ parts_by_place (found ++ part ∷ [])
next_part found groups count part ends below is =
    let within : length found < 16 = omega (arith, ends, below) in
    let at : count ≡ length (full found) = sym ends ∙ sym (length-map found (λ part. Some part)) in
    let left : 15 - length found ≡ 16 - length (found ++ part ∷ []) = omega (arith, length-append found (part ∷ [])) in
    let rest = replicate (15 - length found) None in
    ap (λ places. set places count (Some part)) (is ∙ opened found within)
    ∙ ap (λ n. set (full found ++ None ∷ rest) n (Some part)) at
    ∙ set-append_seam (full found) None rest (Some part)
    ∙ sym (append_assoc (full found) (Some part ∷ []) rest)
    ∙ ap (λ places. places ++ rest) (sym (map-append (λ part. Some part) found (part ∷ [])))
    ∙ ap (λ n. full (found ++ part ∷ []) ++ replicate n None) left

pub loop-item-init : goal.loop-item-init
loop-item-init c =
    let walk : groups_in (view c.args.value.now) ≡ option_map parts_by_place (list_after 0 16 part_in [] (items_left c.in_ok-items.items)) = grind arith in
    ([], refl, omega arith, refl, walk)

pub loop-item-preserved : goal.loop-item-preserved
loop-item-preserved c =
    let now = c.loop-item.invariant in
    let part = c.in_ok-read_part.field-0 in
    let below : c.loop-item.count < 16 = grind arith in
    let longer : length (now.0 ++ part ∷ []) ≡ c.loop-item.count + 1 = omega (arith, now.1, length-append now.0 (part ∷ [])) in
    let walk = list_after-next part_in 0 16 now.0 part (view c.in-Some.item) (items_left c.next.new.self) (items_left c.loop-item.items) c.in-Some.ensures.more (sym c.in_ok-read_part.ensures) in
    (now.0 ++ part ∷ [], longer, omega (arith, below), next_part now.0 c.loop-item.groups c.loop-item.count part now.1 below now.3, now.4 ∙ ap (option_map parts_by_place) walk)

pub returns : goal.returns
returns c =
    let now = c.loop-item.invariant in
    let within : length now.0 ≤ 16 = omega (arith, now.1, now.2) in
    let walk = now.4 ∙ ap (option_map parts_by_place) (list_after-end part_in 0 16 now.0 _ c.in_default.ensures.end (omega arith) within) in
    ap Some (c.new.ensures ∙ now.3) ∙ sym walk

use Rattle.std.proofs.Common.{◌≡◌, ◌≤◌, List, length, option_map}
use Rattle.pgp_ids.specs.declared.part.Part.{Part}
use Rattle.pgp_lines.specs.Groups.{part_in, parts_by_place, groups_in}
use Rattle.pgp_lines.specs.Value.{view, items_left}
use Rattle.pgp_lines.proofs.Walks.{list_after}
use Rattle.pgp_lines.proofs.command.groups.PartsPlain.from_value.Given as goal

-- the first places hold the parts that were found
abbrev pub invariant-loop-item : goal.invariant-loop-item
invariant-loop-item l =
    (found : List Part) × (length found ≡ l.count) × (l.count ≤ 16) × (l.groups ≡ parts_by_place found)
    × (groups_in (view l.value) ≡ option_map parts_by_place (list_after 0 16 part_in found (items_left l.items)))

abbrev pub decreases-loop-item : goal.decreases-loop-item
decreases-loop-item l = length l.items

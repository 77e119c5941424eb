use Rattle.std.proofs.Common.{◌≡◌, ◌<◌, ℕ, List, ◌+◌, ◌++◌, length, option_and_then}
use Rattle.std.specs.List.{All}
use Rattle.pgp_lines.specs.Groups.{slots_in}
use Rattle.pgp_lines.specs.Ids.{slot_in}
use Rattle.pgp_lines.specs.Shapes.{pair_in}
use Rattle.pgp_lines.specs.Value.{view, items_left}
use Rattle.pgp_lines.proofs.Walks.{list_after}
use Rattle.pgp_lines.proofs.command.groups.read_part.Given as goal

-- the array begins with the slots that were found
abbrev pub invariant-loop-item : goal.invariant-loop-item
invariant-loop-item l =
    (found : List ℕ) × (rest : List ℕ) × (length found ≡ l.count) × (l.count + length rest ≡ 16) × (l.slots ≡ found ++ rest) × All (λ slot. slot < 16) found
    × (option_and_then (λ pair. slots_in pair.0) (pair_in (view l.fn.value)) ≡ list_after 0 16 slot_in found (items_left l.items))

abbrev pub decreases-loop-item : goal.decreases-loop-item
decreases-loop-item l = length l.items

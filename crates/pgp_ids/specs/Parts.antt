-- The parts of a grouped pool, and which of them a pool can have (this project's own choice).
use Rattle.std.specs.Prelude.{ℕ, Bool, false, true, not, ◌&&◌, ◌||◌, nat_eq, nat_le, List, [], ◌∷◌, length, Option, is_some, filter_map, fold}
use Rattle.std.specs.List.{list_any, list_all}
use Rattle.pgp_ids.specs.SlotSet.{has_slot, with_slot, common, is_below}
use Rattle.pgp_ids.specs.declared.part.Part.{Part}

-- the set that has the slots of a list: each is put into the empty set
abbrev pub set_of : List ℕ → List ℕ
set_of slots = fold (λ set slot. with_slot slot set) [] slots

-- a slot is twice in the list
abbrev pub has_twice : List ℕ → Bool
has_twice [] = false
has_twice (slot ∷ slots) = has_slot slot slots || has_twice slots

-- the parts of a list with empty places
abbrev pub parts_of : List (Option Part) → List Part
parts_of groups = filter_map (λ group. group) groups

-- a pool of this size can have the part: no slot was twice in its list, each is below the size, and the least number is 1
-- to the number of slots
abbrev pub is_part : ℕ → Part → Bool
is_part size part =
    not part.twice && is_below size part.slots && nat_le 1 part.least && nat_le part.least (length part.slots)

-- no slot is in both parts
abbrev pub is_apart : Part → Part → Bool
is_apart part other = nat_eq (length (common part.slots other.slots)) 0

-- no slot is in two parts
abbrev pub are_apart : List Part → Bool
are_apart [] = true
are_apart (part ∷ parts) = list_all (is_apart part) parts && are_apart parts

-- a pool of this size can have these parts: there is one, it can have each, and no slot is in two. A slot may be in none: its
-- member counts towards min_size and holds its place, and is never needed.
abbrev pub are_parts : ℕ → List (Option Part) → Bool
are_parts size groups =
    list_any is_some groups && list_all (is_part size) (parts_of groups) && are_apart (parts_of groups)

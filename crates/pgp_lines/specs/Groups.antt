-- The parts of a grouped pool in a line: [list of slots, least number of them] for each.
use Rattle.std.specs.Prelude.{ℕ, ◌-◌, List, ◌++◌, length, map, replicate, Option, Some, None, option_map}
use Rattle.serde_json.specs.Data.{Data}
use Rattle.pgp_ids.specs.Parts.{set_of, has_twice}
use Rattle.pgp_ids.specs.declared.part.Part.{Part}
use Rattle.pgp_lines.specs.Shapes.{pair_in, list_in, ◌>>=◌}
use Rattle.pgp_lines.specs.Ids.{slot_in, byte_in}

-- a list of at most 16 slots; it may be empty, and have a slot twice
abbrev pub slots_in : Data → Option (List ℕ)
slots_in d = list_in 0 16 slot_in d

-- the part of the slots in this list
abbrev pub part_from : ℕ → List ℕ → Part
part_from least slots = record { slots = set_of slots; least = least; twice = has_twice slots }

-- [list of slots, least]
abbrev pub part_in : Data → Option Part
part_in d = do
  pair ← pair_in d
  slots ← slots_in pair.0
  least ← byte_in pair.1
  Some (part_from least slots)

-- 16 places, the first of which hold these parts; the others are empty
abbrev pub parts_by_place : List Part → List (Option Part)
parts_by_place parts = map (λ part. Some part) parts ++ replicate (16 - length parts) None

-- a list of at most 16 parts; it may be empty
abbrev pub groups_in : Data → Option (List (Option Part))
groups_in d = option_map parts_by_place (list_in 0 16 part_in d)

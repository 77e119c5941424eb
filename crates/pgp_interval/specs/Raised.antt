-- What epochs in which a group was clean make of its past intervals: the flag `rw` is raised, never lowered, and nothing else
-- changes.
use Rattle.std.specs.Prelude.{ℕ, List, Bool, ◌&&◌, ◌||◌}
use Rattle.pgp_ids.specs.declared.past.Past.{Past}
use Rattle.pgp_interval.specs.ReadWrite.{can_write, was_clean}

-- the interval with its flag raised where its members could serve writes and the group was clean in one of its epochs
abbrev pub raised : (List ℕ → Bool) → Bool → List ℕ → Past → Past
raised enough by_place cleans p =
    record p { rw = p.rw || (can_write enough by_place p.members && was_clean cleans p.first p.last) }

-- What the whole log says of a group, as far as it decides which of its reports are needed.
use Rattle.std.specs.Prelude.{ℕ, ◌+◌, ◌≤◌, Option, option_map, find}
use Rattle.pgp_interval.specs.History.{last_place}
use Rattle.pgp_interval.specs.Runs.{current_first}
use Rattle.pgp_group.specs.GroupLog.{GroupLog}
use Rattle.pgp_group.specs.Heard.{les}
use Rattle.pgp_compact.specs.Compacted.{clean_spans, is_in_span}
use Rattle.pgp_compact.specs.declared.course.Standing.{Standing}

-- the first epoch of the group's interval that holds this epoch, where clean epochs of it can matter
abbrev pub opening_in : GroupLog → ℕ → Option ℕ
opening_in g epoch = option_map (λ span. span.first) (find (is_in_span epoch) (clean_spans g))

-- the log has reached the epoch
abbrev pub HasReached : GroupLog → ℕ → Type 0
HasReached g epoch = epoch ≤ g.history.first + last_place g.history

-- when the current interval began and when the group last began to serve, and the interval of an epoch
abbrev pub standing_at : ℕ → GroupLog → Standing
standing_at epoch g = record { first = current_first g.history; les = les g; opening = opening_in g epoch }

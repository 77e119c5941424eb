-- A group that is told of later epochs (this project's own choice).
use Rattle.std.specs.Prelude.{ℕ}
use Rattle.pgp_group.specs.declared.group.Group.{Group}

-- the group with this as the current epoch
abbrev pub reaching : ℕ → Group → Group
reaching epoch group = record group { intervals = record group.intervals { last = epoch } }

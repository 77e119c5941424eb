use Rattle.std.proofs.Common.{◌≡◌, map, take}
use Rattle.std.specs.Arc.{arc_value}
use Rattle.pgp_group.specs.Entries.{incs_of}
use Rattle.pgp_join.proofs.starts.incs_of.Given as goal

abbrev pub invariant-loop-place : goal.invariant-loop-place
invariant-loop-place l = map (λ placed. placed.inc.now) l.incs.items ≡ incs_of (map arc_value (take l.place l.entries))

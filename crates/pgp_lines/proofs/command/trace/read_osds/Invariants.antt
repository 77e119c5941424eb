use Rattle.std.proofs.Common.{◌≡◌, ◌≤◌, length}
use Rattle.pgp_lines.specs.Ids.{place_in}
use Rattle.pgp_lines.specs.Trace.{osds_in}
use Rattle.pgp_lines.specs.Value.{view, items_left}
use Rattle.pgp_lines.proofs.Walks.{list_after}
use Rattle.pgp_lines.proofs.command.trace.read_osds.Given as goal

abbrev pub invariant-loop-place : goal.invariant-loop-place
invariant-loop-place l = (osds_in l.nulls (view l.value) ≡ list_after 0 16 (place_in l.nulls) l.osds (items_left l.places)) × (length l.osds ≤ 16)

abbrev pub decreases-loop-place : goal.decreases-loop-place
decreases-loop-place l = length l.places

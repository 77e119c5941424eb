use Rattle.std.proofs.Common.{◌≡◌, ◌≤◌, length}
use Rattle.pgp_lines.specs.Trace.{epoch_state_in, epochs_in}
use Rattle.pgp_lines.specs.Value.{view, items_left}
use Rattle.pgp_lines.proofs.Walks.{list_after}
use Rattle.pgp_lines.proofs.command.trace.read_epochs.Given as goal

abbrev pub invariant-loop-item : goal.invariant-loop-item
invariant-loop-item l = (epochs_in l.nulls (view l.value) ≡ list_after 1 4096 (epoch_state_in l.nulls) l.states (items_left l.items)) × (length l.states ≤ 4096)

abbrev pub decreases-loop-item : goal.decreases-loop-item
decreases-loop-item l = length l.items

use Rattle.std.proofs.Common.{◌≡◌, length, option_map}
use Rattle.json.specs.Json.{Members}
use Rattle.json.specs.Find.{InMembers}
use Rattle.pgp_lines.specs.Shapes.{unknown_key_in}
use Rattle.pgp_lines.specs.Value.{view}
use Rattle.pgp_lines.proofs.Keys.{texts, least_unknown}
use Rattle.pgp_lines.proofs.command.objects.unknown_key.Given as goal

-- the least of all is that of the least so far and the members to come
abbrev pub invariant-loop-key : goal.invariant-loop-key
invariant-loop-key l =
    (ms : Members) × InMembers l.members ms
    × (unknown_key_in (texts l.keys) (view l.value) ≡ least_unknown (texts l.keys) (option_map (λ key. key.now) l.least) ms)

abbrev pub decreases-loop-key : goal.decreases-loop-key
decreases-loop-key l = length l.members

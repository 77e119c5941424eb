use Rattle.std.proofs.Common.{◌≡◌, ◌≤◌, map, drop}
use Rattle.json.specs.Tape.{node_token}
use Rattle.pgp_lines.proofs.Readable.{is_readable_from}
use Rattle.pgp_lines.proofs.command.value.is_readable.Given as goal

-- what the tokens that are left say, at this depth, is what all say
abbrev pub invariant-loop-token : goal.invariant-loop-token
invariant-loop-token l =
    (is_readable_from 0 (map node_token l.tokens) ≡ is_readable_from l.depth (map node_token (drop l.token-index l.tokens))) × (l.depth ≤ 127)

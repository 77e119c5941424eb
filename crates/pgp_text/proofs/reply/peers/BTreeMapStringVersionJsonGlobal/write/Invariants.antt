use Rattle.std.proofs.Common.{◌≡◌, ◌++◌}
use Rattle.json.specs.Tree.{members_tokens}
use Rattle.serde_json.specs.Written.{members_outline}
use Rattle.pgp_text.specs.Versions.{versions_members}
use Rattle.pgp_text.proofs.reply.peers.BTreeMapStringVersionJsonGlobal.write.Given as goal

-- what is written, with the rest of the map, is the whole map
abbrev pub invariant-loop-name : goal.invariant-loop-name
invariant-loop-name l =
    (l.out.tokens ++ members_tokens (members_outline (versions_members l.name-iterator))
    ≡ l.initial.out.tokens ++ members_tokens (members_outline (versions_members l.self.entries)))
    × (l.out.before ≡ l.initial.out.before)

use Rattle.std.proofs.Common.{◌≡◌, take, fold}
use Rattle.serde_json.specs.Data.{no_members}
use Rattle.pgp_text.specs.Asked.{with_object}
use Rattle.pgp_text.specs.Versions.{versions_members}
use Rattle.pgp_text.proofs.reply.peers.versions_of.Given as goal

-- the versions so far are those of the objects so far
abbrev pub invariant-loop-missing : goal.invariant-loop-missing
invariant-loop-missing l = versions_members l.versions.entries ≡ fold with_object no_members (take l.missing-index l.objects)

-- Small worlds.
use Rattle.std.specs.Prelude.{List, map}
use Rattle.pgp_ids.specs.declared.entry.Entry.{Entry}
use Rattle.pgp_shard.specs.World.{Step}
use Rattle.pgp_shard.specs.World.Step.{Submit}

-- each of these entries is submitted
abbrev pub submits : List Entry → List Step
submits log = map Submit log

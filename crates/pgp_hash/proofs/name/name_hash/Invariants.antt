use Rattle.std.proofs.Common.{◌≡◌}
use Rattle.pgp_hash.specs.NameHash.{words_after}
use Rattle.pgp_hash.proofs.name.name_hash.Given as goal

abbrev pub invariant-loop-block : goal.invariant-loop-block
invariant-loop-block l = l.words ≡ words_after l.name l.block-index

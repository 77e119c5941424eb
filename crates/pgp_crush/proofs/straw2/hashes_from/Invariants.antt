use Rattle.std.proofs.Common.{◌≡◌, ℕ, ◌<◌, slice_index, length}
use Rattle.pgp_hash.specs.Hash.{hash3}
use Rattle.pgp_crush.proofs.straw2.hashes_from.Given as goal

abbrev pub invariant-loop-k : goal.invariant-loop-k
invariant-loop-k l = record {
  sized : length l.hashes ≡ 8;
  hashed : (j : ℕ) → j < l.k → slice_index l.hashes j ≡ hash3 l.x (slice_index l.ids j) l.r;
}

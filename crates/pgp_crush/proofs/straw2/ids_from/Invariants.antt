use Rattle.std.proofs.Common.{◌≡◌, ℕ, ◌+◌, ◌<◌, pos, slice_index, slice_index_or, length}
use Rattle.pgp_crush.specs.Choice.{word_of}
use Rattle.pgp_crush.proofs.straw2.ids_from.Given as goal

abbrev pub invariant-loop-k : goal.invariant-loop-k
invariant-loop-k l = record {
  sized : length l.ids ≡ 8;
  named : (j : ℕ) → j < l.k → slice_index l.ids j ≡ word_of (slice_index_or l.items (l.first + j) (pos 0));
}

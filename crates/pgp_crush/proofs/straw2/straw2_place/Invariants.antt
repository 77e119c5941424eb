use Rattle.std.proofs.Common.{◌≡◌, ℕ, ◌<◌, ◌≤◌, ◌+◌, ◌*◌, ◌/◌, ◌%◌, ◌^◌, length, slice_index}
use Rattle.pgp_crush.specs.Choice.{hash_at, draw_at}
use Rattle.pgp_crush.proofs.LeastLemmas.{Leads}
use Rattle.pgp_crush.proofs.straw2.straw2_place.Given as goal

abbrev pub invariant-loop-i : goal.invariant-loop-i
invariant-loop-i l = record {
  within : l.i ≤ length l.items;
  hashed : 0 < l.i % 8 → (k : ℕ) → k < 8 → l.i / 8 * 8 + k < length l.items → slice_index l.hashes k ≡ hash_at l.x l.r l.items (l.i / 8 * 8 + k);
  leads : Leads (draw_at l.x l.r l.items l.weights) (2 ^ 63) l.i l.place l.least;
}

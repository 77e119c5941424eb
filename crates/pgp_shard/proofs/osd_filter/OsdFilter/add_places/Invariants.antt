use Rattle.pgp_shard.proofs.Common.{◌≡◌, ℕ, true, take, has_osd, Covers, CoversStill}
use Rattle.pgp_shard.proofs.osd_filter.OsdFilter.add_places.Given as goal

abbrev pub invariant-loop-place : goal.invariant-loop-place
invariant-loop-place l = record {
  there : (osd : ℕ) → has_osd osd (take l.place-index l.places) ≡ true → Covers l.self osd;
  still : CoversStill l.initial.self l.self;
}

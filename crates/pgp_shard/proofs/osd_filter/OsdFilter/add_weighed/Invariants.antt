use Rattle.pgp_shard.proofs.Common.{◌≡◌, ℕ, true, nat_eq, take, list_any, Covers, CoversStill}
use Rattle.pgp_shard.proofs.osd_filter.OsdFilter.add_weighed.Given as goal

abbrev pub invariant-loop-given : goal.invariant-loop-given
invariant-loop-given l = record {
  there : (osd : ℕ) → list_any (λ given. nat_eq osd given.osd) (take l.given-index l.all) ≡ true → Covers l.self osd;
  still : CoversStill l.initial.self l.self;
}

use Rattle.pgp_shard.proofs.Common.{◌≡◌, ℕ, true, nat_eq, take, list_any, Covers, CoversStill}
use Rattle.pgp_shard.proofs.osd_filter.OsdFilter.add_all.Given as goal

abbrev pub invariant-loop-osd : goal.invariant-loop-osd
invariant-loop-osd l = record {
  there : (osd : ℕ) → list_any (nat_eq osd) (take l.osd-index l.osds) ≡ true → Covers l.self osd;
  still : CoversStill l.initial.self l.self;
}

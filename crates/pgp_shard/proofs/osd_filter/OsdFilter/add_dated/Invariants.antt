use Rattle.pgp_shard.proofs.Common.{◌≡◌, ℕ, true, nat_eq, take, list_any, Covers, CoversStill}
use Rattle.pgp_shard.proofs.osd_filter.OsdFilter.add_dated.Given as goal

abbrev pub invariant-loop-told : goal.invariant-loop-told
invariant-loop-told l = record {
  there : (osd : ℕ) → list_any (λ told. nat_eq osd told.osd) (take l.told-index l.all) ≡ true → Covers l.self osd;
  still : CoversStill l.initial.self l.self;
}

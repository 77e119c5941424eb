-- The groups that the only shard of a log gives are those of the log.
use Rattle.std.proofs.Common.{◌≡◌, ℕ, ◌+◌, ◌%◌, List, true, ap₂, ◌∙◌, eq-eqb, subst}
use Rattle.std.proofs.Math.Nat.{mod-one}
use Rattle.std.proofs.lemmas.Bool.{and_parts}
use Rattle.pgp_ids.specs.declared.entry.Entry.{Entry}
use Rattle.pgp_ids.specs.declared.pg_id.PgId.{PgId}
use Rattle.pgp_map.specs.Pools.{has_group}
use Rattle.pgp_group.specs.Entries.{incs_of}
use Rattle.pgp_shard.specs.Shard.{HaveChanged, SaysStill, Shard, is_own}
use Rattle.pgp_core.specs.Changed.{AreAllChanged}

-- each group is one of the only shard's
all-own : (s : Shard) (pg : PgId) → s.shard ≡ 0 → s.shards ≡ 1 → is_own s.shard s.shards pg ≡ true
all-own s pg first only = ap₂ (λ number count. is_own number count pg) first only ∙ eq-eqb ((pg.pool + pg.pg) % 1) 0 (mod-one (pg.pool + pg.pg))

pub all-changed : (n : ℕ) (log : List Entry) (s : Shard) (ids : List PgId) → s.front ≡ log → s.shard ≡ 0 → s.shards ≡ 1 → HaveChanged n s ids → AreAllChanged n log ids
all-changed n log s ids front first only are = record {
  there = λ pg among. subst (λ (l : List Entry). has_group (incs_of l) pg ≡ true) front (and_parts (is_own s.shard s.shards pg) (has_group (incs_of s.front) pg) (are.own pg among)).1;
  once = are.once;
  others = λ pg left. subst (λ (l : List Entry). SaysStill n l pg) front (are.others pg (all-own s pg first only) left);
}

-- The code of a pool.
use Rattle.std.specs.Prelude.{◌≡◌, ℕ, zero, suc, ◌≤◌, List, Option, Bool, true, false, refl}
use Rattle.std.proofs.Common.{arith}
use Rattle.pgp_ids.specs.declared.part.Part.{Part}
use Rattle.pgp_ids.specs.declared.pool.PoolKind.{PoolKind}
use Rattle.pgp_ids.specs.declared.pool.PoolKind.TheVariants as kind
use Rattle.pgp_code.specs.Parts.{want_slots}
use Rattle.pgp_code.specs.declared.any.AnyCode.{AnyCode}
use Rattle.pgp_code.specs.declared.any.AnyCode.TheVariants.{Replicated, Erasure, Grouped}

pub one_le_suc : (k : ℕ) → 1 ≤ suc k
one_le_suc k = omega arith

-- the code of k data shards; a pool with none is refused by every map and stands for one with one
abbrev pub shards : ℕ → AnyCode
shards zero = Erasure (record { k = 1; at_least_one = one_le_suc 0 })
shards (suc k) = Erasure (record { k = suc k; at_least_one = one_le_suc k })

-- the code of these parts, or of one data shard, by the answer whether there is a part and each wants a slot
abbrev pub parts_or_shard : (groups : List (Option Part)) (want : Bool) → want_slots groups ≡ want → AnyCode
parts_or_shard groups true want = Grouped (record { groups = groups; wanted = want })
parts_or_shard groups false none = shards 1

-- the code of these parts; a pool with none, or with a least number of 0, is refused by every map and stands for one with
-- one data shard
abbrev pub parts : List (Option Part) → AnyCode
parts groups = parts_or_shard groups (want_slots groups) refl

-- the code of a pool of this kind
abbrev pub code_of : PoolKind → AnyCode
code_of kind.Replicated = Replicated (record {})
code_of (kind.Erasure k) = shards k
code_of (kind.Grouped groups) = parts groups

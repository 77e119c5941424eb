-- The versions of this project's own format. A line names its version at `v`; one that names none is of the first. Lines are read up to some version,
-- here called `last`.
use Rattle.std.specs.Prelude.{ℕ, List, Bool, true, false, nat_eq, nat_le, codes, Option, Some, None, option_map, unwrap_or, if◌then◌else◌, Result, Ok, Err}
use Rattle.std.specs.List.{list_all}
use Rattle.std.specs.Option.{ok_or, option_map_or}
use Rattle.serde_json.specs.Data.{Data}
use Rattle.serde_json.specs.Find.{get}
use Rattle.pgp_ids.specs.declared.bucket.BucketAlg.{BucketAlg}
use Rattle.pgp_ids.specs.declared.bucket.BucketAlg.TheVariants.{Uniform, List as Weighed, Straw2}
use Rattle.pgp_ids.specs.declared.bucket.BucketSpec.{BucketSpec}
use Rattle.pgp_ids.specs.declared.pool.PoolKind.{PoolKind}
use Rattle.pgp_ids.specs.declared.pool.PoolKind.TheVariants.{Replicated, Erasure, Grouped}
use Rattle.pgp_ids.specs.declared.pool.PoolSpec.{PoolSpec}
use Rattle.pgp_lines.specs.LineFault.{LineFault, bad_field}
use Rattle.pgp_lines.specs.Shapes.{number_in}
use Rattle.pgp_lines.specs.declared.command.format.Format.{Format}
use Rattle.pgp_lines.specs.declared.command.format.Format.TheVariants.{One, Two, Three}

-- ---- the version of a line

-- its number
abbrev pub format_number : Format → ℕ
format_number One = 1
format_number Two = 2
format_number Three = 3

-- the version of this number, which is 1 to 3
abbrev pub format_numbered : ℕ → Format
format_numbered n = if nat_eq n 1 then One else (if nat_eq n 2 then Two else Three)

-- the version that the key `v` gives, if it is there: a number from 1 to that of the last
abbrev pub format_at : Format → Option Data → Option Format
format_at last None = Some One
format_at last (Some d) = option_map format_numbered (number_in 1 (format_number last) d)

-- the version that a line names, where it is one that is read
abbrev pub format_of : Format → Data → Option Format
format_of last d = format_at last (get (codes "v") d)

-- the version in which the other keys of a line are read: a line whose `v` is bad is read in the last
abbrev pub read_in : Format → Option Format → Format
read_in last format = unwrap_or format last

-- the judgement of the key `v`
abbrev pub judged : Option Format → Result Format LineFault
judged format = ok_or format (bad_field (codes "v"))

-- ---- what a version has

-- it has pools, and codes of traces, of this kind: grouped ones came with the second
abbrev pub has_pool_kind : Format → PoolKind → Bool
has_pool_kind format Replicated = true
has_pool_kind format (Erasure k) = true
has_pool_kind format (Grouped groups) = nat_le 2 (format_number format)

-- it has buckets that choose so: straw2 buckets came with the third
abbrev pub has_alg : Format → BucketAlg → Bool
has_alg format Uniform = true
has_alg format Weighed = true
has_alg format Straw2 = nat_le 3 (format_number format)

-- it has the key `after` of an incremental, which came with the third
abbrev pub has_after : Format → Bool
has_after Three = true
has_after Two = false
has_after One = false

-- it has each of these pools
abbrev pub has_pools : Format → List PoolSpec → Bool
has_pools format pools = list_all (λ pool. has_pool_kind format pool.kind) pools

-- it has each bucket of the tree, where there is one
abbrev pub has_tree : Format → Option (List BucketSpec) → Bool
has_tree format tree = option_map_or (λ buckets. list_all (λ bucket. has_alg format bucket.alg) buckets) tree true

-- the judgement of a key by whether the version of its line has the value
abbrev pub judged_at : List ℕ → Bool → Result (Unit {0}) LineFault
judged_at key has = if has then Ok tt else Err (bad_field key)

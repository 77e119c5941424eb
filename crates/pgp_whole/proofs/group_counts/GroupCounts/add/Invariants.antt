use Rattle.std.proofs.Common.{◌≡◌, ℕ, ◌+◌, ◌<◌, take, slice_index, nat_eq}
use Rattle.std.specs.List.{count_by}
use Rattle.pgp_whole.specs.Summary.{counted}
use Rattle.pgp_whole.proofs.group_counts.GroupCounts.add.Given as goal

abbrev pub invariant-loop-osd : goal.invariant-loop-osd
invariant-loop-osd l =
    (osd n : ℕ) → osd < 4096 → slice_index l.fn.self osd ≡ counted n → slice_index l.self osd ≡ counted (n + count_by (nat_eq osd) (take l.osd-index l.osds))

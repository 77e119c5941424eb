use Rattle.std.proofs.Common.{ℕ, arith}
use Rattle.std.proofs.lemmas.Grind.{common_steps}
use Rattle.std.proofs.lemmas.List.{get_or-replicate}
use Rattle.pgp_whole.proofs.group_counts.GroupCounts.new.Goals as goal

pub returns : goal.returns
returns c = λ osd below. grind (arith, common_steps, get_or-replicate {A = ℕ} 4096 osd 0 0 below)

use Rattle.pgp_shard.proofs.Common.{sym, ◌∙◌, true≢false, epoch, incs_of}
use Rattle.pgp_shard.proofs.RowLemmas.{row-is}
use Rattle.pgp_shard.proofs.kept_group.KeptGroup.row.Goals as goal
use Rattle.pgp_shard.proofs.kept_group.KeptGroup.row.Goals.{then-not-marked, else-not-marked}

pub returns : goal.returns
returns c =
    let kept = c.args.self.now in
    let raw = rw c.as_slice.ensures.value at c.add_places.ensures.there in
    let temp = rw c.as_slice-2.ensures.value at c.add_places-2.ensures.there in
    elim c.if-not-marked.branch [
      | then-not-marked w ↦ rw w.devices-is (row-is kept _ _ _ _ c.is_marked-marked.ensures raw c.add_places-2.ensures.still temp w.add_all.ensures.still
          (λ worked_out log is osd named. w.add_all.ensures.there osd (w.named.ensures.later log kept.pg (epoch (incs_of log)) is.group_is osd ∙ named)))
      | else-not-marked w ↦ rw w.devices-is (row-is kept _ _ _ _ c.is_marked-marked.ensures raw c.add_places-2.ensures.still temp (λ osd has. has)
          (λ worked_out log is osd named. absurd (true≢false (sym w.if-not-marked.false ∙ c.is_marked-marked.ensures ∙ worked_out))))
    ]

use Rattle.pgp_shard.proofs.Common.{nat_eq, ◌∙◌}
use Rattle.pgp_shard.proofs.RowLemmas.{either-in}
use Rattle.pgp_log.proofs.TouchLemmas.{changed-parts, turned-parts}
use Rattle.pgp_shard.proofs.row.Changes.of.Goals as goal

pub returns : goal.returns
returns c =
    let inc = c.args.inc.now in
    let turned = either-in _ _ _ _ (either-in _ _ _ _
    (rw c.as_slice.ensures at c.add_all.ensures.there) c.add_all-2.ensures.still
    (rw c.as_slice-2.ensures at c.add_all-2.ensures.there)) c.add_all-3.ensures.still
    (rw c.as_slice-3.ensures at c.add_all-3.ensures.there) in
    record {
      places = c.changes_placements.ensures;
      moves = c.moves_some.ensures;
      temps = rw c.as_slice-7.ensures at c.keys_of.ensures;
      turned = λ osd there. c.add_weighed.ensures.still osd (turned osd (turned-parts (nat_eq osd) inc ∙ there));
      weighed = rw c.as_slice-4.ensures at c.add_weighed.ensures.there;
      devices = λ osd there.
          either-in _ _ _ _ (either-in _ _ _ _
          (λ osd is. c.add_weighed.ensures.still osd (turned osd is)) c.add_dated.ensures.still
          (rw c.as_slice-5.ensures at c.add_dated.ensures.there)) c.add_dated-2.ensures.still
          (rw c.as_slice-6.ensures at c.add_dated-2.ensures.there) osd (changed-parts (nat_eq osd) inc ∙ there);
    }

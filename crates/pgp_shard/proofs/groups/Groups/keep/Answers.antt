use Rattle.pgp_shard.proofs.Common.{ℕ, Some, cond, refl, ap, ◌∙◌, is_same_group, Groups}
use Rattle.std.specs.HashMap as hash
use Rattle.pgp_shard.proofs.groups.Groups.keep.Goals as goal

pub returns : goal.returns
returns c =
    let old : Groups = c.args.self.now in
    record {
      row = c.row.result;
      map = refl;
      found = λ pg. c.in_ok-insert.ensures.updates.0 pg
          ∙ ap (λ (n : ℕ). cond (is_same_group c.args.kept.pg pg) (Some n) (hash.get is_same_group old.places pg)) (c.len-place.ensures ∙ old.kept.ok.0);
      rows = c.in_ok-push.ensures.items;
      row_is = c.row.ensures;
      items = c.in_ok-push-2.ensures.items;
      worked = refl;
    }

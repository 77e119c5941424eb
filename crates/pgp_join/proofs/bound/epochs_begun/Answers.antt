use Rattle.std.proofs.Common.{◌≡◌, ◌+◌, ◌++◌, ◌∷◌, [], ap, arith, nat_eq, subst, take, ◌∙◌}
use Rattle.std.proofs.lemmas.Grind.{common_steps}
use Rattle.std.specs.List.{flat_map}
use Rattle.std.specs.Set.{IsUnion, is_member}
use Rattle.pgp_group.specs.Entries.{incs_of}
use Rattle.pgp_join.specs.Bound.{begun_in}
use Rattle.pgp_join.proofs.BoundLemmas.{epochs_begun-by, members-more}
use Rattle.pgp_join.proofs.bound.epochs_begun.Goals as goal

pub loop-pg-preserved : goal.loop-pg-preserved
loop-pg-preserved c =
    let kept = c.loop-pg.invariant in
    let pg = c.pg-item.result in
    let groups = c.deref-pg-items.result.now in
    let more : take (c.loop-pg.pg-index + 1) groups ≡ take c.loop-pg.pg-index groups ++ pg ∷ [] = grind (arith, common_steps) in
    let put = subst (λ log. IsUnion nat_eq c.loop-pg.epochs.keys (begun_in log pg) c.put_group.new.epochs.keys) kept.same c.in_ok-put_group.ensures.put in
    record {
      same = c.put_group.ensures.same ∙ kept.same;
      has = members-more (begun_in c.args.log.now) groups c.loop-pg.pg-index pg c.loop-pg.epochs.keys c.put_group.new.epochs.keys more kept.has put;
    }

pub returns-clause-epochs : goal.returns-clause-epochs
returns-clause-epochs c = λ q.
    let log = c.args.log.now in
    let groups = c.in_ok-groups.groups.items in
    let all : take c.loop-pg.pg-index c.deref-pg-items.result.now ≡ groups = grind (arith, common_steps) in
    c.loop-pg.invariant.has q ∙ ap (λ l. is_member nat_eq (flat_map (begun_in log) l) q) all
    ∙ epochs_begun-by log groups (λ pg has. c.in_ok-groups.ensures (incs_of log) c.map.ensures pg has) q

use Rattle.std.proofs.Common.{◌≡◌, ◌+◌, ◌++◌, ◌∷◌, [], OnOk, ap, arith, nat_eq, subst, sym, take, ◌∙◌}
use Rattle.std.proofs.lemmas.Grind.{common_steps}
use Rattle.std.proofs.lemmas.Iterator.{YieldsList-from_slice}
use Rattle.std.proofs.lemmas.Iterator.Adapters.{fact_from_extend}
use Rattle.std.proofs.lemmas.List.Folds.{flat_map-map}
use Rattle.std.specs.List.{flat_map}
use Rattle.std.specs.Set.{IsUnion, is_member}
use Rattle.pgp_ids.specs.declared.incremental.Incremental.{Incremental}
use Rattle.pgp_join.specs.declared.starts.Placed.{Placed}
use Rattle.pgp_join.proofs.BoundLemmas.{members-more}
use Rattle.pgp_join.proofs.bound.devices_booted.Goals as goal

pub loop-it-preserved : goal.loop-it-preserved
loop-it-preserved c =
    let it = c.it-item.result in
    let old = c.loop-it.booted.keys in
    let new = c.extend.new.self.keys in
    let more : take (c.loop-it.it-index + 1) c.args.incs.now ≡ take c.loop-it.it-index c.args.incs.now ++ it ∷ [] = grind (arith, common_steps) in
    let put : OnOk c.extend.result (IsUnion nat_eq old c.as_slice.result.now new) =
    fact_from_extend (λ osd. osd.now) c.extend.result c.extend.ensures.ran (λ s from. YieldsList-from_slice _ from.0) (λ items are has. subst (λ l. IsUnion nat_eq old l new) are has.0) in
    members-more (λ (placed : Placed). placed.inc.now.up) c.args.incs.now c.loop-it.it-index it old new more c.loop-it.invariant
    (subst (λ l. IsUnion nat_eq old l new) c.as_slice.ensures (subst (λ r. OnOk r (IsUnion nat_eq old c.as_slice.result.now new)) c.in_ok-extend.was put))

pub returns : goal.returns
returns c = λ q.
    let all : take c.loop-it.it-index c.args.incs.now ≡ c.args.incs.now = grind (arith, common_steps) in
    c.loop-it.invariant q
    ∙ ap (λ l. is_member nat_eq l q)
    (ap (flat_map (λ (placed : Placed). placed.inc.now.up)) all ∙ sym (flat_map-map (λ (inc : Incremental). inc.up) (λ (placed : Placed). placed.inc.now) c.args.incs.now))

use Rattle.std.proofs.Common.{◌∙◌, sym}
use Rattle.std.specs.Option.{option_or}
use Rattle.pgp_map.proofs.DeviceLemmas.{device-push}
use Rattle.pgp_map.proofs.FaultLemmas.{no_fault}
use Rattle.pgp_map.proofs.MapLemmas.{epoch-push, weight-push, pool-push, sizes-push, temp-push, count-push, tree-push}
use Rattle.pgp_map.proofs.map.OsdMap.change.Goals as goal

pub returns : goal.returns
returns c = λ incs is fine.
    let none = no_fault incs c.args.inc.now fine in
    record {
      epoch_is = sym (epoch-push incs c.args.inc.now);
      devices_are = λ q. simp is.devices_are at (c.change.ensures q) ∙ sym (device-push incs c.args.inc.now q);
      weights_are = λ q. simp (c.as_slice.ensures, is.weights_are) at (c.set_all.ensures q) ∙ sym (weight-push incs c.args.inc.now q);
      pools_are = λ q. simp (c.as_slice-3.ensures, c.make_all.ensures, c.as_slice-2.ensures, is.pools_are) at (c.resize_all.ensures q)
          ∙ sym (pool-push incs c.args.inc.now q none.known (is.sizes_are q));
      sizes_are = λ q. sizes-push incs c.args.inc.now q none (is.sizes_are q);
      count_is = simp (c.saturating_add-self.ensures, c.group_sum-made.ensures, c.as_slice-4.ensures, is.count_is) (count-push incs c.args.inc.now none);
      temps_are = λ q. simp (c.as_slice-5.ensures, is.temps_are) at (c.put_all.ensures q) ∙ sym (temp-push incs c.args.inc.now q none);
      tree_is = c.or.ensures ∙ (λ i. option_or (c.requires.tree i) ((c.take.ensures.value ∙ is.tree_is) i)) ∙ sym (tree-push incs c.args.inc.now);
    }

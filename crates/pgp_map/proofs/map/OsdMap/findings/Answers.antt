use Rattle.std.proofs.Common.{◌∙◌, sym}
use Rattle.std.specs.List.{list_any}
use Rattle.pgp_map.specs.MapFault.{is_bad_list}
use Rattle.pgp_map.proofs.MapLemmas.{pool-push}
use Rattle.pgp_map.proofs.map.OsdMap.findings.Goals as goal

pub returns : goal.returns
returns c = λ incs is. record {
  unknown_device_is = c.has_unknown_device.ensures incs is;
  already_up_is = simp (c.as_slice.ensures, is.devices_are) at c.has_up.ensures;
  already_down_is = simp (c.as_slice-2.ensures, is.devices_are) at c.has_down.ensures;
  still_up_is = c.has_still_up.ensures incs is;
  up_thru_back_is = simp (c.as_slice-3.ensures, is.devices_are) at c.has_up_thru_back.ensures;
  ahead_is = c.has_ahead.ensures;
  bad_pool_is = c.has_bad_pool.ensures incs is;
  pool_known_is = simp (c.as_slice-4.ensures, is.pools_are) at c.has_known.ensures;
  bad_temp_is = λ known.
      simp is.pools_are at c.has_bad_temp.ensures
      ∙ sym (λ i. list_any (λ given. is_bad_list (pool-push incs c.args.inc.now given.pg.pool known (is.sizes_are given.pg.pool) i) given) c.args.inc.now.temp);
}

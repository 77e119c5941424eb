-- What holds of an incremental that isn't refused.
use Rattle.std.proofs.Common.{◌≡◌, List, false, arith}
use Rattle.std.specs.Prelude.{None}
use Rattle.pgp_ids.specs.declared.incremental.Incremental.{Incremental}
use Rattle.pgp_lists.proofs.Options.{if_none}
use Rattle.pgp_map.specs.MapFault.{map_fault, given_fault, has_epoch_gap, has_up_thru_back, has_bad_pool, has_pool_known, has_bad_temp}

pub record NoFault (incs : List Incremental) (inc : Incremental) : Type 0 where
  pub gap : has_epoch_gap incs inc ≡ false
  pub up_thru : has_up_thru_back incs inc ≡ false
  pub pools : has_bad_pool incs inc ≡ false
  pub known : has_pool_known incs inc ≡ false
  pub temps : has_bad_temp incs inc ≡ false
  pub tree : given_fault inc.crush ≡ None

pub no_fault : (incs : List Incremental) (inc : Incremental) → map_fault incs inc ≡ None → NoFault incs inc
unfolding map_fault
no_fault incs inc e = grind (arith, if_none)

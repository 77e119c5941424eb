use Rattle.std.proofs.Common.{◌∙◌, arith}
use Rattle.std.proofs.lemmas.Bool.Decides.{nat_tests}
use Rattle.std.proofs.lemmas.Result.{on_err_weaker}
use Rattle.pgp_lists.proofs.Results.{on_err}
use Rattle.pgp_map.proofs.map.OsdMap.make_room.Goals as goal

pub returns-clause-same : goal.returns-clause-same
returns-clause-same c = λ incs is. record {
  epoch_is = is.epoch_is;
  devices_are = λ q. c.place_named.ensures.same q ∙ is.devices_are q;
  weights_are = λ q. c.place.ensures.same q ∙ is.weights_are q;
  pools_are = λ q. c.reserve.ensures.entries.2 q ∙ is.pools_are q;
  sizes_are = is.sizes_are;
  count_is = is.count_is;
  temps_are = λ q. c.place_all.ensures.same q ∙ is.temps_are q;
  tree_is = is.tree_is;
}

pub returns-in_err-place_named-clause-wants : goal.returns-in_err-place_named-clause-wants
returns-in_err-place_named-clause-wants c = on_err c.from_residual.result _ (λ incs is. grind (arith, simp is.devices_are at c.in_err-place_named.ensures.wants))

pub returns-in_err-place-clause-wants : goal.returns-in_err-place-clause-wants
returns-in_err-place-clause-wants c = on_err c.from_residual-in_err-place.result _ (λ incs is. grind (arith, c.in_err-place.ensures.wants))

pub returns-in_err-reserve-clause-wants : goal.returns-in_err-reserve-clause-wants
returns-in_err-reserve-clause-wants c = on_err c.from_residual-in_err-reserve.result _ (λ incs is. grind (arith, nat_tests, c.len.ensures, c.in_err-reserve.ensures.succeeds))

pub returns-clause-wants : goal.returns-clause-wants
returns-clause-wants c = on_err_weaker c.place_all.result (λ some. λ incs is. grind (arith, nat_tests, some)) c.place_all.ensures.wants

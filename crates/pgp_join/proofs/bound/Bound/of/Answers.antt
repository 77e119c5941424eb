use Rattle.std.proofs.Common.{◌≡◌, ◌≤◌, ap, arith, map, nat_eq, subst, ◌∙◌}
use Rattle.std.proofs.lemmas.Cmp.{nat_eq_equiv}
use Rattle.std.proofs.lemmas.Map.Made.{length-from_keys}
use Rattle.std.specs.Set.{distinct_count}
use Rattle.pgp_group.specs.Entries.{incs_of}
use Rattle.pgp_join.specs.Bound.{devices_booted, epochs_begun, lists_given}
use Rattle.pgp_join.specs.declared.starts.Placed.{Placed}
use Rattle.pgp_join.proofs.bound.Bound.of.Goals as goal

pub returns-clause-most : goal.returns-clause-most
returns-clause-most c = λ same.
    let log = c.args.log.now in
    let incs = map (λ (placed : Placed). placed.inc.now) c.args.incs.now in
    let epochs : c.len.result ≡ distinct_count nat_eq (epochs_begun log) =
    c.len.ensures.len ∙ length-from_keys nat_eq_equiv c.in_ok-begun.begun.keys (epochs_begun log) c.len.ensures.unique c.in_ok-begun.ensures.epochs in
    let devices : c.len-2.result ≡ distinct_count nat_eq (devices_booted (incs_of log)) =
    c.len-2.ensures.len ∙ length-from_keys nat_eq_equiv c.in_ok-booted.booted.keys (devices_booted incs) c.len-2.ensures.unique c.in_ok-booted.ensures
    ∙ ap (λ l. distinct_count nat_eq (devices_booted l)) same in
    let lists : c.lists_given.result ≤ lists_given (incs_of log) = subst (λ l. c.lists_given.result ≤ lists_given l) same c.lists_given.ensures in
    omega (arith, c.most-most_incs.ensures, epochs, devices, lists)

use Rattle.pgp_group.proofs.Common.{subst, sym, then_with, incs_of}
use Rattle.pgp_map.specs.Held.{HasGroup}
use Rattle.pgp_group.proofs.GrowthLemmas.{has_group-grows}
use Rattle.pgp_group.proofs.laws.growth.the_next_map_has_the_group.Goals as goal

pub returns : goal.returns
returns c = λ log pg inc group map is checked made.
    let fine = c.checked_lists_grow_by_incrementals_without_fault.ensures.last (incs_of log) inc checked in
    let there = c.pools_of_checked_lists.ensures.group (then_with (incs_of log) inc) map pg made checked (has_group-grows (incs_of log) inc pg is.history fine is.history_is) in
    subst (HasGroup map) (sym is.keeps.pg_is) there

use Rattle.std.proofs.Common.{Option, false, sym, ap, eqb-true, ◌∙◌}
use Rattle.std.specs.List.{list_any}
use Rattle.std.specs.Option.{option_map_or}
use Rattle.std.specs.Prelude.{length}
use Rattle.pgp_ids.specs.declared.pool.PoolSpec.{PoolSpec}
use Rattle.pgp_map.specs.Devices.{weight}
use Rattle.pgp_sets.specs.Sets.{placement_input, switches}
use Rattle.pgp_sets.proofs.RawSetLemmas.{none-switched}
use Rattle.pgp_sets.proofs.switches.switches_any.Goals as goal

pub returns-then-is_empty : goal.returns-then-is_empty
returns-then-is_empty c = λ incs is.
    sym (none-switched incs c.args.pg.now c.args.places.now c.args.before.now (eqb-true (length c.args.before.now) 0 (sym c.is_empty.ensures ∙ c.if-is_empty.true)))

pub returns : goal.returns
returns c = λ incs is.
    c.switches_any_for.ensures incs is
    ∙ ap (λ x. list_any (λ old. switches x c.args.places.now old.osd old.weight (weight incs old.osd)) c.args.before.now) c.placement_input-x.ensures
    ∙ sym (ap (λ (found : Option PoolSpec). option_map_or (λ made. list_any (λ old. switches (placement_input made c.args.pg.now) c.args.places.now old.osd old.weight (weight incs old.osd)) c.args.before.now) found false)
    (c.pool_of.ensures.told incs is))

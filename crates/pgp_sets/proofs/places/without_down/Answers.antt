use Rattle.std.proofs.Common.{None, false, filter, map, ◌∙◌, if◌then◌else◌}
use Rattle.std.specs.Option.{option_map_or}
use Rattle.std.proofs.lemmas.List.{take_all}
use Rattle.pgp_map.specs.HeldLaws.{held_up-is}
use Rattle.pgp_sets.proofs.places.without_down.Goals as goal

pub returns : goal.returns
returns c = λ incs is.
    c.loop-place.invariant.value
    ∙ rw (take_all c.loop-place.place-index c.args.places.now c.loop-place-test.false)
    (λ i. if c.is_by_place-keeps_places.ensures i then map (λ place. if option_map_or (λ osd. held_up-is incs c.args.map.now is osd i) place false then place else None) c.args.places.now
    else filter (λ place. option_map_or (λ osd. held_up-is incs c.args.map.now is osd i) place false) c.args.places.now)

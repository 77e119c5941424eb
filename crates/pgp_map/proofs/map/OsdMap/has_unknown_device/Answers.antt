use Rattle.std.proofs.Common.{◌||◌, not, nat_eq, ◌∙◌}
use Rattle.std.specs.List.{list_any}
use Rattle.pgp_map.specs.MapFault.{devices_that_must_exist}
use Rattle.pgp_map.proofs.map.OsdMap.has_unknown_device.Goals as goal

pub returns : goal.returns
returns c = λ incs is.
    let inc = c.args.inc.now in
    simp (c.of-boots.ensures, c.as_slice.ensures) at c.has_unknown.ensures
    ∙ (λ i. list_any (λ osd. not ((is.devices_are osd i).exists || list_any (nat_eq osd) inc.up)) (devices_that_must_exist inc))

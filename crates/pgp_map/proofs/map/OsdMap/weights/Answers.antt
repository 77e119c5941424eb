use Rattle.std.proofs.Common.{◌∙◌}
use Rattle.std.proofs.lemmas.List.FromFn.{fill_by_all}
use Rattle.pgp_map.specs.Devices.{weight}
use Rattle.pgp_map.proofs.map.OsdMap.weights.Goals as goal

pub returns-clause-value : goal.returns-clause-value
returns-clause-value c =
    λ incs is. fill_by_all (weight incs) c.as_slice.result.now 4096 65536 c.as_slice.ensures.long
    (λ q below. c.as_slice.ensures.value q below ∙ is.weights_are q)

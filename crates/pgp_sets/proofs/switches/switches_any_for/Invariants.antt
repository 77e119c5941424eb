use Rattle.std.proofs.Common.{◌≡◌, List, false, take}
use Rattle.std.specs.List.{list_any}
use Rattle.pgp_ids.specs.declared.incremental.Incremental.{Incremental}
use Rattle.pgp_map.specs.Devices.{weight}
use Rattle.pgp_map.specs.MapOf.{IsMapOf}
use Rattle.pgp_sets.specs.Sets.{switches}
use Rattle.pgp_sets.proofs.switches.switches_any_for.Given as goal

abbrev pub invariant-loop-old : goal.invariant-loop-old
invariant-loop-old l = (incs : List Incremental) → IsMapOf incs l.after → list_any (λ old. switches l.x l.places old.osd old.weight (weight incs old.osd)) (take l.old-index l.before) ≡ false

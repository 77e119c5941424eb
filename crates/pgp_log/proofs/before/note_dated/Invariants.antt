use Rattle.pgp_log.proofs.Common.{◌≡◌, List, ◌++◌, map, take, Incremental, IsMapOf, with_facts}
use Rattle.pgp_log.proofs.before.note_dated.Given as goal

abbrev pub invariant-loop-told : goal.invariant-loop-told
invariant-loop-told l = (incs : List Incremental) → IsMapOf incs l.map → l.devices.items ≡ l.initial.devices.items ++ map (with_facts incs) (map (λ told. told.osd) (take l.told-index l.all))

use Rattle.pgp_log.proofs.Common.{◌≡◌, List, ◌++◌, map, take, Incremental, IsMapOf, with_facts}
use Rattle.pgp_log.proofs.before.note_booted.Given as goal

abbrev pub invariant-loop-osd : goal.invariant-loop-osd
invariant-loop-osd l = (incs : List Incremental) → IsMapOf incs l.map → l.devices.items ≡ l.initial.devices.items ++ map (with_facts incs) (take l.osd-index l.osds)

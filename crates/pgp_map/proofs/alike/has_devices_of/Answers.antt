use Rattle.std.proofs.Common.{◌≡◌, rules, tests}
use Rattle.std.proofs.lemmas.Iterator.{cases_from_all}
use Rattle.std.proofs.lemmas.Iterator.Consumers.{YieldsList-from_rest}
use Rattle.std.specs.Cmp.{unsigned_Decides}
use Rattle.std.specs.HashMap as hash
use Rattle.pgp_map.specs.Alike.{read_of}
use Rattle.pgp_tables.specs.DeviceTable.{device_at, has_place}
use Rattle.pgp_map.proofs.AlikeLemmas.{each-key}
use Rattle.pgp_map.proofs.alike.has_devices_of.Goals as goal

pub returns : goal.returns
returns c =
    let table = c.args.table.now in
    let other = c.args.other.now in
    each-key unsigned_Decides (λ q. read_of (device_at table q) ≡ read_of (device_at other q)) (λ q. has_place table q) c.keys.result (hash.keys table) c.all.result
    c.keys.ensures.rest c.keys.ensures.has c.keys.ensures.found
    (cases_from_all _ _ _ (λ q. read_of (device_at table q) ≡ read_of (device_at other q)) (λ q. (read_of (device_at table q) ≡ read_of (device_at other q)) → ⊥) c.all.ensures.ran (YieldsList-from_rest (hash.keys table) c.keys.ensures.rest) (λ x r k. search (rules, tests)) (λ x r k. search (rules, tests)))

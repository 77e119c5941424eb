use Rattle.std.proofs.Common.{◌≡◌, rules, tests}
use Rattle.std.proofs.lemmas.Iterator.{cases_from_all}
use Rattle.std.proofs.lemmas.Iterator.Consumers.{YieldsList-from_rest}
use Rattle.std.specs.HashMap as hash
use Rattle.pgp_tables.specs.TempTable.{has_temp, temp_at}
use Rattle.pgp_map.proofs.AlikeLemmas.{each-key, groups_Decides}
use Rattle.pgp_map.proofs.alike.has_temps_of.Goals as goal

pub returns : goal.returns
returns c =
    let table = c.args.table.now in
    let other = c.args.other.now in
    each-key groups_Decides (λ q. temp_at table q ≡ temp_at other q) (λ q. has_temp table q) c.keys.result (hash.keys table) c.all.result
    c.keys.ensures.rest c.keys.ensures.has c.keys.ensures.found
    (cases_from_all _ _ _ (λ q. temp_at table q ≡ temp_at other q) (λ q. (temp_at table q ≡ temp_at other q) → ⊥) c.all.ensures.ran (YieldsList-from_rest (hash.keys table) c.keys.ensures.rest) (λ x r k. search (rules, tests)) (λ x r k. search (rules, tests)))

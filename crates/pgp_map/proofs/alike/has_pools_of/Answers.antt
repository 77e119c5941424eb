use Rattle.std.proofs.Common.{◌≡◌, nat_eq, is_some, rules, tests}
use Rattle.std.proofs.lemmas.Iterator.{cases_from_all}
use Rattle.std.proofs.lemmas.Iterator.Consumers.{YieldsList-from_rest}
use Rattle.std.specs.Cmp.{unsigned_Decides}
use Rattle.std.specs.HashMap as hash
use Rattle.pgp_map.proofs.AlikeLemmas.{each-key}
use Rattle.pgp_map.proofs.alike.has_pools_of.Goals as goal

pub returns : goal.returns
returns c =
    let table = c.args.table.now in
    let other = c.args.other.now in
    each-key unsigned_Decides (λ q. hash.get nat_eq table q ≡ hash.get nat_eq other q) (λ q. is_some (hash.get nat_eq table q)) c.keys.result (hash.keys table) c.all.result
    c.keys.ensures.rest c.keys.ensures.has c.keys.ensures.found
    (cases_from_all _ _ _ (λ q. hash.get nat_eq table q ≡ hash.get nat_eq other q) (λ q. (hash.get nat_eq table q ≡ hash.get nat_eq other q) → ⊥) c.all.ensures.ran (YieldsList-from_rest (hash.keys table) c.keys.ensures.rest) (λ x r k. search (rules, tests)) (λ x r k. search (rules, tests)))

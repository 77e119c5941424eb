use Rattle.std.proofs.Common.{rules, tests, ◌≡◌, ◌||◌, ◌&&◌, not, ◌∙◌}
use Rattle.std.proofs.lemmas.Iterator.{YieldsList-from_slice}
use Rattle.std.proofs.lemmas.Iterator.Search.{any_from_yields_List}
use Rattle.pgp_map.specs.Devices.{boots, takes_down, destroys, is_up}
use Rattle.pgp_map.specs.MapFault.{then_with}
use Rattle.pgp_map.proofs.CheckLemmas.{up_after}
use Rattle.pgp_map.proofs.map.OsdMap.has_lost_up.Goals as goal

pub returns : goal.returns
returns c = λ incs is.
    let inc = c.args.inc.now in
    any_from_yields_List (λ entry. is_up (then_with incs inc) entry.osd) _ _ c.any.result c.any.ensures.ran (YieldsList-from_slice inc.lost cc) (λ x b q k.
    let found : b ≡ (boots x.now.osd inc || not (takes_down x.now.osd inc || destroys x.now.osd inc) && is_up incs x.now.osd) = search (rules, tests) in
    (search rules, found ∙ up_after incs inc x.now.osd))

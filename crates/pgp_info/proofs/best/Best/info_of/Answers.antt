use Rattle.std.proofs.Common.{◌≡◌, List, [], ◌∷◌, Bool, is_some, find, refl, arith, rules, tests}
use Rattle.std.specs.List.{list_any}
use Rattle.std.specs.Option.{option_copied}
use Rattle.std.proofs.lemmas.Iterator.{YieldsList-from_slice}
use Rattle.std.proofs.lemmas.Iterator.Search.{find_from_yields_List}
use Rattle.pgp_ids.specs.Member.{is_same_member}
use Rattle.pgp_ids.specs.declared.report.Info.{Info}
use Rattle.pgp_info.proofs.best.Best.info_of.Goals as goal

some-find : (test : Info → Bool) (infos : List Info) → is_some (find test infos) ≡ list_any test infos
some-find test [] = refl
some-find test (info ∷ infos) = grind (arith, some-find test infos)

pub returns-clause-heard : goal.returns-clause-heard
returns-clause-heard g c =
    let test = λ (info : Info). is_same_member info.member c.args.member.now in
    let value : option_copied c.find.result ≡ find test c.deref.result.now =
    find_from_yields_List test _ _ c.find.result c.find.ensures.ran (YieldsList-from_slice c.deref.result.now c.iter.ensures.rest) (λ x b q k. search (rules, tests)) in
    grind (arith, value, some-find test c.deref.result.now)

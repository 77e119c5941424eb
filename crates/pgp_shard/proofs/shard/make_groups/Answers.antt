use Rattle.pgp_shard.proofs.Common.{List, Option, map, refl, sym, subst, IfSome, arc_value, AreOwnGroupsOf, AreWorkedAt, Entry, shard_with, Groups}
use Rattle.pgp_shard.specs.kept.Groups.{AreMadeBeside}
use Rattle.pgp_shard.proofs.WorkedLemmas.{none-worked}
use Rattle.pgp_shard.proofs.KeptBesideLemmas.{groups-there, marked-anew, marked-there}
use Rattle.pgp_shard.proofs.shard.make_groups.Goals as goal

pub returns-in-Some-clause-made : goal.returns-in-Some-clause-made
returns-in-Some-clause-made c =
    let log : List Entry = map arc_value c.args.entries.now in
    let kept : Option Groups = c.args.kept.now in
    let groups : Groups = c.in-Some.field-0 in
    let are : AreOwnGroupsOf c.args.owner log groups = groups-there c.args.owner log kept groups c.requires c.in-Some.is in
    subst (λ (o : Option Groups). IfSome o (AreMadeBeside c.args.owner log kept)) (sym c.in-Some.is) (record {
      are = are;
      marks = marked-there c.args.owner log groups kept c.in-Some.is are;
      worked = subst (λ (o : Option Groups). AreWorkedAt (shard_with c.args.owner log o) groups) (sym c.in-Some.is) (λ pg. refl);
    })

pub returns-in_ok-of-in-None-clause-made : goal.returns-in_ok-of-in-None-clause-made
returns-in_ok-of-in-None-clause-made c =
    let log : List Entry = map arc_value c.args.entries.now in
    let groups : Groups = c.in_ok-of-in-None.field-0 in
    let new = c.in_ok-of-in-None.ensures in
    record {
      are = new.is;
      marks = marked-anew c.args.owner log groups c.args.kept.now c.in-None.is new.is new.marked;
      worked = subst (λ (o : Option Groups). AreWorkedAt (shard_with c.args.owner log o) groups) (sym c.in-None.is) (none-worked groups.kept.items new.marked);
    }

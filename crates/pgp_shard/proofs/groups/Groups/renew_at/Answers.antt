use Rattle.pgp_shard.proofs.Common.{◌≡◌, Some, true, length, refl, slice_get, slice_get_read, with_item, arith, AreAtPlaces, Groups, KeptGroup}
use Rattle.pgp_shard.proofs.GroupsLemmas.{at-places, ids-set}
use Rattle.pgp_shard.proofs.OwnGroupsLemmas.{worked-out}
use Rattle.pgp_shard.proofs.RowLemmas.{rows-set}
use Rattle.pgp_shard.proofs.WorkedLemmas.{renews-at}
use Rattle.pgp_shard.proofs.groups.Groups.renew_at.Goals as goal

pub returns : goal.returns
returns c =
    let old : Groups = c.args.self.now in
    let place = c.args.place in
    let kept : KeptGroup = c.index_mut-group.result.now in
    let after : KeptGroup = c.renew-done.new.self in
    let done = c.renew-done.ensures in
    let at : slice_get old.kept.items place ≡ Some kept = slice_get_read old.kept.items (length old.kept.items) place kept refl c.requires.within c.index_mut-group.ensures.value in
    let places : AreAtPlaces (record old { rows = with_item old.rows place c.row.result; kept = with_item old.kept place after; some_worked_out = true }) =
    at-places old _ refl (ids-set old.kept.items place kept after at done.pg) (rows-set old.rows.items old.kept.items place c.row.result after c.requires.within c.row.ensures c.requires.at.rows) c.requires.at in
    record {
      at = places;
      is = λ owner log are long. (
        worked-out owner log old place kept after c.row.result at done.pg c.row.ensures (λ of lies. done.kept log of lies long) are,
        renews-at c.args.count old _ place kept after c.requires.at places at refl refl (done.worked log (are.groups_are.each.each place kept at) are.map_is long),
      );
      one = record { before = kept; after = after; there = at; pg = done.pg; kept = refl; places = refl; view = done.marks; wants = done.wants };
    }

pub index_mut-requires : goal.index_mut-requires
index_mut-requires c = omega (arith, c.requires.within, c.requires.at.rows.long, c.args.self.now.rows.ok.0)

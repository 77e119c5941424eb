use Rattle.pgp_shard.proofs.Common.{◌≡◌, false, rules, refl, sym, ◌∙◌, and_right, owns, ids_of, is_among}
use Rattle.pgp_shard.proofs.groups.Groups.new.Goals as goal

pub returns-clause-is : goal.returns-clause-is
returns-clause-is c = λ owner. record {
  legal = refl;
  map_is = c.empty.ensures;
  groups_are = search rules;
  own_are = λ pg. let none : is_among pg (ids_of c.new-3.result.items) ≡ false = search rules in none ∙ sym (and_right (owns owner pg) _ refl);
}

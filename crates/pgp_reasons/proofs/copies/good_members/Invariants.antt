use Rattle.std.proofs.Common.{◌≡◌, drop, map}
use Rattle.std.specs.List.{filter}
use Rattle.pgp_ids.specs.Member.{is_before}
use Rattle.pgp_lists.specs.Ordered.{IsAscending, ascending, with_items}
use Rattle.pgp_reasons.specs.Copies.{is_as_good}
use Rattle.pgp_reasons.proofs.copies.good_members.Given as goal

-- the list so far, with those of the infos that are left, is the list with all of them
abbrev pub invariant-loop-info : goal.invariant-loop-info
invariant-loop-info l = record {
  left : with_items is_before (map (λ info. info.member) (filter (is_as_good l.good) (drop l.info-index l.infos))) l.members.items
      ≡ ascending is_before (map (λ info. info.member) (filter (is_as_good l.good) l.infos));
  order : IsAscending is_before l.members.items;
}

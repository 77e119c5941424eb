use Rattle.std.proofs.Common.{◌++◌, nat_lt, drop}
use Rattle.std.specs.List.{filter, flat_map}
use Rattle.pgp_ids.specs.Member.{is_before}
use Rattle.pgp_lists.specs.Ordered.{ascending}
use Rattle.pgp_prior.specs.Members.{members_of}
use Rattle.pgp_prior.specs.kept.KeptLists.{kept_matters, kept_blocks, up_of, down_of}
use Rattle.pgp_prior.proofs.Lists.{IsWalk}
use Rattle.pgp_prior.proofs.index.PriorIndex.prior.Given as goal

-- the lists, with what the intervals that are left add, have all
abbrev pub invariant-loop-kept : goal.invariant-loop-kept
invariant-loop-kept g l =
    let by_place = l.by_place in
    let now = members_of by_place l.self.current.up ++ members_of by_place l.self.current.acting ++ flat_map (up_of by_place) (filter (kept_matters l.self.les) l.kept-items) in
    IsWalk is_before (up_of by_place) (kept_matters l.self.les) (ascending is_before now) (drop l.kept-index l.kept-items) l.probe.items
    × IsWalk nat_lt (down_of by_place) kept_blocks (ascending nat_lt (flat_map (down_of by_place) (filter kept_blocks l.kept-items))) (drop l.kept-index l.kept-items) l.blocked_by.items

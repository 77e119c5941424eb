use Rattle.std.proofs.Common.{◌≡◌, drop, map, nat_lt}
use Rattle.pgp_lists.specs.Ordered.{IsAscending, with_items}
use Rattle.pgp_missing.specs.Log.{number_of}
use Rattle.pgp_reasons.proofs.gaps.add_numbers.Given as goal

-- the numbers so far, with those that are left, are all
abbrev pub invariant-loop-entry : goal.invariant-loop-entry
invariant-loop-entry l =
    (with_items nat_lt (map number_of (drop l.entry-index l.log)) l.numbers.items ≡ with_items nat_lt (map number_of l.log) l.initial.numbers.items)
    × IsAscending nat_lt l.numbers.items

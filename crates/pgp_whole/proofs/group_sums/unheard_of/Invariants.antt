use Rattle.std.proofs.Common.{◌≡◌, ℕ, List, ◌&&◌, not, nat_eq, take}
use Rattle.std.specs.List.{list_any}
use Rattle.std.specs.Ordering.{nat_cmp, is_lt}
use Rattle.pgp_ids.specs.declared.entry.Entry.{Entry}
use Rattle.pgp_lists.specs.Ordered.{IsAscending}
use Rattle.pgp_group.specs.GroupLog.{GroupLog}
use Rattle.pgp_group.specs.Heard.{has_member, heard}
use Rattle.pgp_reasons.specs.Reasons.{IsViewed}
use Rattle.pgp_reasons.specs.Smallest.{holds}
use Rattle.pgp_whole.specs.kept.Hearing.{AreStamps}
use Rattle.pgp_whole.proofs.group_sums.unheard_of.Given as goal

abbrev pub invariant-loop-member : goal.invariant-loop-member
invariant-loop-member l = record {
  ascends : IsAscending (λ a b. is_lt (nat_cmp a b)) l.osds.items;
  holds : (log : List Entry) (g : GroupLog) (osd : ℕ) → IsViewed log l.map l.pg l.view g → AreStamps log l.stamps
      → holds l.osds.items osd ≡ list_any (λ member. not (has_member member (heard g)) && nat_eq osd member.osd) (take l.member-index l.member-items);
}

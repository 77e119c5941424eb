-- Whether two reports, or two past intervals, are the same, part by part.
use Rattle.std.specs.Prelude.{◌&&◌, Bool, true, false, nat_eq}
use Rattle.std.specs.Cmp.Lexicographic.{pointwise}
use Rattle.std.proofs.Math.Bool.{beq}
use Rattle.pgp_ids.specs.Member.{is_same_member}
use Rattle.pgp_ids.specs.Version.{is_same_version}
use Rattle.pgp_ids.specs.declared.log_entry.Change.{Change}
use Rattle.pgp_ids.specs.declared.log_entry.Change.TheVariants.{Modify, Delete}
use Rattle.pgp_ids.specs.declared.log_entry.LogEntry.{LogEntry}
use Rattle.pgp_ids.specs.declared.past.Past.{Past}
use Rattle.pgp_ids.specs.declared.report.Info.{Info}
use Rattle.pgp_ids.specs.declared.report.Report.{Report}
use Rattle.pgp_interval.specs.SameMembers.{is_same}
use Rattle.pgp_map.specs.Pools.{is_same_group}

abbrev pub is_same_info : Info → Info → Bool
is_same_info a b =
    is_same_group a.pg b.pg && is_same_member a.member b.member && nat_eq a.stamp b.stamp && nat_eq a.les b.les && nat_eq a.history_les b.history_les
    && nat_eq a.last_epoch_clean b.last_epoch_clean && is_same_version a.last_update b.last_update && is_same_version a.log_tail b.log_tail
    && beq a.complete b.complete

abbrev pub is_same_change : Change → Change → Bool
is_same_change Modify Modify = true
is_same_change Modify Delete = false
is_same_change Delete Modify = false
is_same_change Delete Delete = true

abbrev pub is_same_entry : LogEntry → LogEntry → Bool
is_same_entry a b = is_same_version a.version b.version && is_same_change a.change b.change && pointwise nat_eq a.object b.object

abbrev pub is_same_report : Report → Report → Bool
is_same_report a b = is_same_group a.pg b.pg && is_same_member a.member b.member && nat_eq a.stamp b.stamp && pointwise is_same_entry a.log b.log

abbrev pub is_same_past : Past → Past → Bool
is_same_past a b = nat_eq a.first b.first && nat_eq a.last b.last && is_same a.members b.members && beq a.rw b.rw

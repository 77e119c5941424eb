use Rattle.std.proofs.Common.{◌≡◌, List, ◌∙◌, subst}
use Rattle.std.specs.List.{filter_map}
use Rattle.pgp_ids.specs.declared.entry.Entry.{Entry}
use Rattle.pgp_ids.specs.declared.pg_id.PgId.{PgId}
use Rattle.pgp_map.specs.MapOf.{IsMapOf}
use Rattle.pgp_map.specs.Map.{epoch}
use Rattle.pgp_group.specs.Entries.{incs_of}
use Rattle.pgp_group.specs.GroupLog.{group_in}
use Rattle.pgp_whole.specs.kept.Hearing.{AreStamps}
use Rattle.pgp_whole.specs.Summary.{all_groups, devices_of, down_from, group_logs, waits_of}
use Rattle.pgp_whole.specs.kept.Sums.{AreSums, waits_in}
use Rattle.pgp_whole.proofs.SummaryDevices.{devices-agree}
use Rattle.pgp_whole.proofs.summary.summary_of.Goals as goal

pub returns-clause-value : goal.returns-clause-value
returns-clause-value c =
    let log : List Entry = c.args.log.now in
    let pgs : List PgId = all_groups (incs_of log) in
    let sums = c.in_ok-sums.sums in
    let listed : c.in_ok-groups.groups.items ≡ pgs = c.in_ok-groups.ensures (incs_of log) c.map.ensures in
    let stamped : AreStamps log c.in_ok-stamps.stamps = subst (λ (l : List Entry). AreStamps l c.in_ok-stamps.stamps) c.entries.ensures.entries c.in_ok-stamps.ensures in
    let are : AreSums (group_logs log) sums =
    subst (λ (l : List PgId). AreSums (filter_map (group_in log) l) sums) (c.as_slice.ensures.value ∙ listed) (c.in_ok-sums.ensures.value stamped) in
    let last : IsMapOf (incs_of log) c.map-2.result.now = subst (λ (l : List Entry). IsMapOf (incs_of l) c.map-2.result.now) c.sums_of.ensures.same c.map-2.ensures in
    let at : c.epoch.result ≡ epoch (incs_of log) = c.epoch.ensures (incs_of log) last in
    let devices : c.in_ok-devices.devices ≡ devices_of (waits_of (group_logs log)) =
    c.in_ok-devices.ensures
    ∙ devices-agree (waits_in sums) (waits_of (group_logs log))
    (λ osd below. λ i. record {
      frees = down_from (are.frees_are osd below i);
      blocks = down_from (are.blocks_are osd below i);
      awaited = down_from (are.awaited_are osd below i);
      osd = osd;
    }) in
    λ i. record { epoch = at i; verdicts = are.verdicts_are i; devices = devices i }

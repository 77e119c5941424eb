-- All that a log says of a placement group, worked out from nothing (Ceph's developer documentation on peering: what the
-- acting primary learns and decides).
use Rattle.std.specs.Prelude.{List, length, Option, option_map}
use Rattle.pgp_ids.specs.declared.entry.Entry.{Entry}
use Rattle.pgp_ids.specs.declared.pg_id.PgId.{PgId}
use Rattle.pgp_ids.specs.declared.view.View.{View}
use Rattle.pgp_interval.specs.Runs.{current_first}
use Rattle.pgp_map.specs.Map.{epoch}
use Rattle.pgp_group.specs.GroupLog.{GroupLog, group_in, incs}
use Rattle.pgp_group.specs.Heard.{les}
use Rattle.pgp_group.specs.Peering.{past, prior, best, peer_states}
use Rattle.pgp_group.specs.Verdict.{verdict}

-- the view of a group
abbrev pub view_of : GroupLog → View
view_of g =
    record {
      count = length g.log;
      epoch = epoch (incs g);
      up = g.history.current.up;
      up_primary = g.history.current.up_primary;
      acting = g.history.current.acting;
      acting_primary = g.history.current.acting_primary;
      first = current_first g.history;
      intervals = past g;
      les = les g;
      probe = (prior g).probe;
      blocked_by = (prior g).blocked_by;
      verdict = verdict g;
      best = option_map (λ info. info.member) (best g);
      missing = peer_states g;
    }

-- the view of a group in a log, where the last map has the group
abbrev pub scratch : List Entry → PgId → Option View
scratch log pg = option_map view_of (group_in log pg)

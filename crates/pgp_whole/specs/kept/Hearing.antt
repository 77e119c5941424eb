-- Whom groups hear by the entries of a log.
use Rattle.std.specs.Prelude.{◌≡◌, ℕ, List, Bool, false, ◌&&◌, nat_eq}
use Rattle.std.specs.HashMap as hash
use Rattle.std.specs.HashMap.{HashMap}
use Rattle.std.specs.List.{list_any}
use Rattle.std.specs.Option.{option_map_or}
use Rattle.pgp_ids.specs.Member.{is_same_member}
use Rattle.pgp_ids.specs.declared.entry.Entry.{Entry}
use Rattle.pgp_ids.specs.declared.entry.Entry.TheVariants as entry
use Rattle.pgp_ids.specs.declared.member.Member.{Member}
use Rattle.pgp_ids.specs.declared.pg_id.PgId.{PgId}
use Rattle.pgp_ids.specs.declared.report.Info.{Info}
use Rattle.pgp_map.specs.Pools.{is_same_group}
use Rattle.pgp_group.specs.GroupLog.{GroupLog}
use Rattle.pgp_group.specs.Heard.{is_counted}
use Rattle.pgp_whole.specs.declared.stamps.Sender.{Sender}

-- the group hears the member by the info
abbrev pub hears_by : GroupLog → Member → Info → Bool
hears_by g member info = is_same_group info.pg g.pg && (is_counted g info.member info.stamp && is_same_member info.member member)

-- the same by an entry
abbrev pub hears : GroupLog → Member → Entry → Bool
hears g member (entry.Info info) = hears_by g member info
hears g member other = false

-- a group, and a member that sent infos to it
abbrev pub source_of : PgId → Member → Sender
source_of pg member = record { pg = pg; osd = member.osd; slot = member.slot }

-- the group and the member are the same
abbrev pub is_same_source : Sender → Sender → Bool
is_same_source a b = is_same_group a.pg b.pg && (nat_eq a.osd b.osd && nat_eq a.slot b.slot)

-- what is kept of the infos among the entries: a group hears a member by one of them just where the stamp counts that is kept
abbrev pub AreStamps : {S : Type 0} → List Entry → HashMap Sender ℕ S → Type 0
AreStamps entries stamps =
    (g : GroupLog) (member : Member)
    → option_map_or (is_counted g member) (hash.get is_same_source stamps (source_of g.pg member)) false ≡ list_any (hears g member) entries

-- Which info a pool prefers, by its code.
use Rattle.std.specs.Prelude.{Option, Bool, if◌then◌else◌}
use Rattle.pgp_code.specs.AnyCode.{is_by_place}
use Rattle.pgp_code.specs.declared.any.AnyCode.{AnyCode}
use Rattle.pgp_ids.specs.declared.member.Member.{Member}
use Rattle.pgp_ids.specs.declared.report.Info.{Info}
use Rattle.pgp_info.specs.Preference.{newest_first, oldest_first}

-- a pool of this code prefers the first of two infos, where this member leads: the oldest where each member has a shard of its
-- own, else the newest
abbrev pub prefers : AnyCode → Option Member → Info → Info → Bool
prefers code leader = if is_by_place code then oldest_first leader else newest_first leader

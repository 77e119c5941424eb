-- Which info a pool of either kind prefers.
use Rattle.std.specs.Prelude.{Bool}
use Rattle.pgp_ids.specs.declared.report.Info.{Info}
use Rattle.pgp_info.specs.declared.preference.Preference.{Preference}
use Rattle.pgp_info.specs.declared.preference.Preference.TheVariants.{NewestFirst, OldestFirst}
use Rattle.pgp_info.specs.Preference.{newest_first, oldest_first, IsPreference}
use Rattle.pgp_info.specs.PreferenceLaws.{newest_is_preference, oldest_is_preference}

-- the pool prefers the first of two infos
abbrev pub prefers_with : Preference → Info → Info → Bool
prefers_with (NewestFirst newest) = newest_first newest.primary
prefers_with (OldestFirst oldest) = oldest_first oldest.primary

pub prefers_is_preference : (preference : Preference) → IsPreference (prefers_with preference)
prefers_is_preference (NewestFirst newest) = newest_is_preference newest.primary
prefers_is_preference (OldestFirst oldest) = oldest_is_preference oldest.primary

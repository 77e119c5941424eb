-- Infos of small groups.
use Rattle.std.specs.Prelude.{ℕ, Option, Some}
use Rattle.pgp_ids.specs.declared.member.Member.{Member}
use Rattle.pgp_ids.specs.declared.version.Version.{Version}
use Rattle.pgp_ids.specs.declared.report.Info.{Info}
use Rattle.pgp_ids.specs.Examples.{empty_copy}
pub use Rattle.pgp_ids.specs.Examples.{at, in_slot}

-- the info of a complete copy with the writes up to this one, sent in epoch 1
abbrev pub info_up_to : Version → Member → Info
info_up_to last member = record empty_copy { member = member; last_update = last }

-- the info of a complete copy with no write, of a device in slot 0
abbrev pub fresh : ℕ → Info
fresh osd = info_up_to (at 0 0) (in_slot osd 0)

-- device 0 leads
abbrev pub device_0 : Option Member
device_0 = Some (in_slot 0 0)

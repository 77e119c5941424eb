-- Which numbers are those of a member, and of which. This project's own choice.
use Rattle.std.specs.Prelude.{ℕ, ◌≤◌}
use Rattle.pgp_ids.specs.declared.member.Member.{Member}

-- the numbers are those of a member
pub record AreOfMember (osd slot : ℕ) : Type 0 where
  pub osd_in_range : osd ≤ 4095
  pub slot_in_range : slot ≤ 15

abbrev pub member : ℕ → ℕ → Member
member osd slot = record { osd = osd; slot = slot }

-- The best of the infos that were heard, as it is kept while infos come and go (this project's own choice).
use Rattle.std.specs.Prelude.{◌≡◌, ℕ, List, Option, Some, Bool, true, not, ◌&&◌, unwrap_or, option_map, nat_eq, nat_le, if◌then◌else◌}
use Rattle.std.specs.Option.{option_map_or}
use Rattle.pgp_ids.specs.Member.{is_same_member}
use Rattle.pgp_ids.specs.declared.member.Member.{Member}
use Rattle.pgp_ids.specs.declared.report.Info.{Info}
use Rattle.pgp_info.specs.declared.lead.Lead.{Lead}
use Rattle.pgp_info.specs.Best.{HasDistinctMembers, last_start, best_info}

-- the copy is complete and served in this epoch or later
abbrev pub has_served_since : ℕ → Info → Bool
has_served_since start info = info.complete && nat_le start info.les

-- the info is preferred to the best one so far, or there is none
abbrev pub is_ahead : (Info → Info → Bool) → Info → Option Info → Bool
is_ahead better info best = unwrap_or (option_map (better info) best) true

-- the best one beside an info: this one, where its copy served since that epoch and it is ahead
abbrev pub best_beside : (Info → Info → Bool) → ℕ → Info → Option Info → Option Info
best_beside better start info best = if has_served_since start info && is_ahead better info best then Some info else best

-- nothing changes without the member's info, when these are left: the best one is another's, or there is none and the last
-- start stays
abbrev pub stays_without : Member → List Info → Lead → Bool
stays_without member left lead =
    option_map_or (λ best. not (is_same_member best.member member)) lead.best (nat_eq (last_start left) lead.start)

-- what is kept is the best of these infos, and the last epoch in which the group began to serve as far as they tell
pub record IsLead (better : Info → Info → Bool) (infos : List Info) (lead : Lead) : Type 0 where
  pub start : lead.start ≡ last_start infos
  pub best : lead.best ≡ best_info better infos

-- the infos are of distinct members, and what is kept is the best of them
pub record AreLed (better : Info → Info → Bool) (infos : List Info) (lead : Lead) : Type 0 where
  pub distinct : HasDistinctMembers infos
  pub led : IsLead better infos lead

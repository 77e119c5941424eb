-- What is kept of the prior set of a group while the log grows (this project's own choice).
use Rattle.std.specs.Prelude.{◌≡◌, ℕ, ◌≤◌, List, length, take}
use Rattle.pgp_code.specs.AnyCode.{enough_of, is_by_place}
use Rattle.pgp_code.specs.declared.any.AnyCode.{AnyCode}
use Rattle.pgp_ids.specs.declared.past.Past.{Past}
use Rattle.pgp_map.specs.declared.map.OsdMap.{OsdMap}
use Rattle.pgp_prior.specs.IndexOf.{Basis, IsIndexOf}
use Rattle.pgp_prior.specs.declared.index.PriorIndex.{PriorIndex}
use Rattle.pgp_sets.specs.Status.{status, held_status}
use Rattle.pgp_group.specs.GroupLog.{GroupLog, incs}
use Rattle.pgp_group.specs.Heard.{les}
use Rattle.pgp_group.specs.kept.DeviceFacts.{HasEachMember, GivesEach, AreOfMap}
use Rattle.pgp_group.specs.Peering.{past}
use Rattle.pgp_group.specs.declared.device_facts.DeviceFacts.{DeviceFacts}
use Rattle.pgp_group.specs.declared.kept_prior.KeptPrior.{KeptPrior}

-- what the prior set of the group is reckoned from
abbrev pub basis_of : GroupLog → Basis AnyCode
basis_of g =
    record {
      code = g.history.code;
      past = past g;
      current = g.history.current;
      les = les g;
      status = status (incs g);
    }

-- the same with these past intervals, where the map says what has become of devices
abbrev pub basis_with : GroupLog → OsdMap → List Past → Basis AnyCode
basis_with g map intervals = record (basis_of g) { past = intervals; status = held_status map }

-- the index is of the group as it is now, except for past intervals that aren't added yet
pub record IsAbreast (g : GroupLog) (map : OsdMap) (added : ℕ) (index : PriorIndex AnyCode) (noted : List DeviceFacts) : Type 0 where
  pub within : added ≤ length (past g)
  pub index_is : IsIndexOf enough_of is_by_place (basis_with g map (take added (past g))) index
  pub has_each : HasEachMember (is_by_place g.history.code) (take added (past g)) noted
  pub of_map : AreOfMap map noted

-- the index is of the group as it is now
abbrev pub IsReckoned : GroupLog → PriorIndex AnyCode → Type 0
IsReckoned g index = IsIndexOf enough_of is_by_place (basis_of g) index

-- the index is of the group as it was once: of its first past intervals, with the statuses that are noted of their devices
pub record KeepsPrior (g : GroupLog) (kept : KeptPrior) : Type 0 where
  pub basis : Basis AnyCode
  pub code_is : basis.code ≡ g.history.code
  pub within : kept.added ≤ length (past g)
  pub past_are : basis.past ≡ take kept.added (past g)
  pub since : basis.les ≤ les g
  pub index_is : IsIndexOf enough_of is_by_place basis kept.index
  pub has_each : HasEachMember (is_by_place basis.code) basis.past kept.noted.items
  pub gives_each : GivesEach (is_by_place basis.code) basis.status basis.past kept.noted.items

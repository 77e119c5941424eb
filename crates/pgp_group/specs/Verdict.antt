-- Whether a placement group may serve (Ceph's developer documentation on peering; the order of the causes is this
-- project's own choice).
use Rattle.std.specs.Prelude.{◌≡◌, ℕ, ◌<◌, List, [], ◌∷◌, Bool, true, false, not, ◌||◌, nat_lt, is_none, find, unwrap_or}
use Rattle.std.specs.List.{list_any}
use Rattle.std.specs.Option.{option_map_or}
use Rattle.pgp_code.specs.AnyCode.{enough_of, is_by_place}
use Rattle.pgp_ids.specs.Osds.{osd_count}
use Rattle.pgp_ids.specs.declared.verdict.Verdict.{Verdict}
use Rattle.pgp_ids.specs.declared.verdict.Verdict.TheVariants.{NoPrimary, Down, Waiting, Incomplete, Short, NeedLog, NeedUpThru, Serve}
use Rattle.pgp_interval.specs.ReadWrite.{acting_slots}
use Rattle.pgp_interval.specs.Runs.{current_first}
use Rattle.pgp_map.specs.Devices.{up_thru}
use Rattle.pgp_group.specs.GroupLog.{GroupLog, incs}
use Rattle.pgp_group.specs.Heard.{has_member, heard}
use Rattle.pgp_group.specs.Peering.{prior, best, whole_best}

-- acting has fewer than min_size members, or their slots aren't enough
abbrev pub is_short : GroupLog → Bool
is_short g =
    nat_lt (osd_count g.history.current.acting) g.history.current.min_size
    || not (enough_of g.history.code (acting_slots (is_by_place g.history.code) g.history.current.acting))

-- the map has yet to say that the primary was up in the current interval. Where nobody leads this holds too; NoPrimary comes
-- before it.
abbrev pub needs_up_thru : GroupLog → Bool
needs_up_thru g =
    option_map_or (λ osd. nat_lt (up_thru (incs g) osd) (current_first g.history)) g.history.current.acting_primary true

-- a member that has to be heard isn't
abbrev pub is_waiting : GroupLog → Bool
is_waiting g = list_any (λ member. not (has_member member (heard g))) (prior g).probe

-- the cause of a verdict holds; nothing has to hold for the last one
abbrev pub verdict_holds : GroupLog → Verdict → Bool
verdict_holds g NoPrimary = is_none g.history.current.acting_primary
verdict_holds g Down = (prior g).down
verdict_holds g Waiting = is_waiting g
verdict_holds g Incomplete = is_none (best g)
verdict_holds g Short = is_short g
verdict_holds g NeedLog = is_none (whole_best g)
verdict_holds g NeedUpThru = needs_up_thru g
verdict_holds g Serve = true

-- the verdicts, in the order in which their causes are looked at
abbrev pub in_order : List Verdict
in_order = NoPrimary ∷ Down ∷ Waiting ∷ Incomplete ∷ Short ∷ NeedLog ∷ NeedUpThru ∷ Serve ∷ []

-- the first verdict whose cause holds
abbrev pub verdict : GroupLog → Verdict
verdict g = unwrap_or (find (verdict_holds g) in_order) Serve

-- the place of a verdict in this order
abbrev pub verdict_place : Verdict → ℕ
verdict_place NoPrimary = 0
verdict_place Down = 1
verdict_place Waiting = 2
verdict_place Incomplete = 3
verdict_place Short = 4
verdict_place NeedLog = 5
verdict_place NeedUpThru = 6
verdict_place Serve = 7

-- the verdict's cause holds, and none before it does
pub record IsFirstCause (g : GroupLog) (verdict : Verdict) : Type 0 where
  pub cause : verdict_holds g verdict ≡ true
  pub none_before : (other : Verdict) → verdict_place other < verdict_place verdict → verdict_holds g other ≡ false

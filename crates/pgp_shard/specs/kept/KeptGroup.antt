-- What a shard keeps of its groups, as far as the entries that it has read tell of them.
use Rattle.std.specs.Prelude.{◌≡◌, ℕ, ◌≤◌, List, [], ◌∷◌, ◌++◌, length, map, take, slice_get, Bool, ◌&&◌, not, nat_lt, is_none, if◌then◌else◌, Some, None, IfSome, true, false}
use Rattle.std.specs.List.{All, filter}
use Rattle.std.specs.Option.{option_map_or}
use Rattle.pgp_ids.specs.declared.entry.Entry.{Entry}
use Rattle.pgp_ids.specs.declared.entry.Entry.TheVariants as entry
use Rattle.pgp_ids.specs.declared.incremental.Incremental.{Incremental}
use Rattle.pgp_ids.specs.declared.pg_id.PgId.{PgId}
use Rattle.pgp_ids.specs.declared.view.View.{View}
use Rattle.pgp_map.specs.Map.{epoch}
use Rattle.pgp_map.specs.MapFault.{then_with}
use Rattle.pgp_map.specs.MapOf.{IsMapOf}
use Rattle.pgp_map.specs.Pools.{temp}
use Rattle.pgp_map.specs.declared.map.OsdMap.{OsdMap}
use Rattle.pgp_group.specs.Entries.{incs_of}
use Rattle.pgp_group.specs.GroupOf.{IsGroupOf}
use Rattle.pgp_group.specs.Reaching.{reaching}
use Rattle.pgp_group.specs.Touched.{is_touched, view_at}
use Rattle.pgp_group.specs.View.{scratch}
use Rattle.pgp_log.specs.Fits.{fits}
use Rattle.pgp_log.specs.Log.{is_legal}
use Rattle.pgp_log.specs.MapBefore.{IsMapBefore}
use Rattle.pgp_log.specs.RawSets.{IsRawSet}
use Rattle.pgp_log.specs.declared.before.MapBefore.{MapBefore}
use Rattle.pgp_shard.specs.Shard.{WorkedGroup}
use Rattle.pgp_shard.specs.declared.kept_group.KeptGroup.{KeptGroup}

-- the view is what the log says of the group, except for count and epoch
abbrev pub IsViewOf : List Entry → PgId → View → Type 0
IsViewOf log pg view = scratch log pg ≡ Some (view_at (length log) (epoch (incs_of log)) view)

-- it is so of each front of the log that has the entries by which the view was worked out
abbrev pub IsViewSince : List Entry → PgId → View → Type 0
IsViewSince log pg view = (n : ℕ) → view.count ≤ n → IsViewOf (take n log) pg view

-- the group, brought to the epoch of the log, stands for its group of the log: it needn't have been told of maps by which it
-- lies as before. Its raw set is where the map's tree puts it, its pg_temp list is that of the map, and its view, if it is
-- there, is that of the log since it was worked out
pub record IsKeptOf (log : List Entry) (kept : KeptGroup) : Type 0 where
  pub group_is : IsGroupOf log kept.pg (reaching (epoch (incs_of log)) kept.group)
  pub raw_is : IsRawSet (incs_of log) kept.pg kept.raw
  pub temp_is : kept.temp ≡ temp (incs_of log) kept.pg
  pub view_is : IfSome kept.view (IsViewSince log kept.pg)

-- this holds of each log of which the group is kept
abbrev pub OfKeptLog : KeptGroup → (List Entry → Type 0) → Type 0
OfKeptLog kept P = (log : List Entry) → IsKeptOf log kept → P log

-- its view has to be worked out anew
abbrev pub lacks_view : KeptGroup → Bool
lacks_view kept = is_none kept.view

-- how many entries were read when it was last worked out: 0 where it has to be
abbrev pub worked_count : KeptGroup → ℕ
worked_count kept = option_map_or (λ view. view.count) kept.view 0

-- it has to be worked out, or was when more than n entries were read
abbrev pub is_newer : ℕ → KeptGroup → Bool
is_newer n kept = option_map_or (λ view. nat_lt n view.count) kept.view true

-- it doesn't come to be marked; where it was and isn't any more, it was worked out by this many entries, and else when it was
abbrev pub IsWorkedOut : ℕ → KeptGroup → KeptGroup → Type 0
IsWorkedOut count before after = (lacks_view after ≡ true → lacks_view before ≡ true)
    × (worked_count after ≡ (if lacks_view before && not (lacks_view after) then count else worked_count before))

-- the incremental comes next in the log; this is what is kept of the map before it, and this the map after it
pub record IsStep (log : List Entry) (inc : Incremental) (before : MapBefore) (after : OsdMap) : Type 0 where
  pub legal : is_legal log ≡ true
  pub fits : fits log (entry.Inc inc) ≡ None
  pub before_is : IsMapBefore (incs_of log) inc before
  pub after_is : IsMapOf (then_with (incs_of log) inc) after

-- where the incremental comes next in the log, what is kept of the group follows the log on
abbrev pub StepsOn : Incremental → MapBefore → OsdMap → KeptGroup → KeptGroup → Type 0
StepsOn inc before after old new = OfKeptLog old (λ log. IsStep log inc before after → IsKeptOf (log ++ entry.Inc inc ∷ []) new)

-- where it comes next, it touches the group
abbrev pub IsTouchedBy : Incremental → MapBefore → OsdMap → KeptGroup → Type 0
IsTouchedBy inc before after kept = OfKeptLog kept (λ log. IsStep log inc before after → is_touched log (entry.Inc inc) kept.pg ≡ true)

-- where it comes next and doesn't touch the group, the view that is kept stays as it was
abbrev pub KeepsView : Incremental → MapBefore → OsdMap → KeptGroup → KeptGroup → Type 0
KeepsView inc before after old new =
    OfKeptLog old (λ log. IsStep log inc before after → is_touched log (entry.Inc inc) old.pg ≡ false → new.view ≡ old.view)

-- it does in some log of which the group is kept
pub record CanStep (kept : KeptGroup) (inc : Incremental) (before : MapBefore) (after : OsdMap) : Type 0 where
  pub log : List Entry
  pub is : IsKeptOf log kept
  pub step : IsStep log inc before after

-- each group of the list is kept
pub record AreKeptOf (log : List Entry) (groups : List KeptGroup) : Type 0 where
  pub each : (place : ℕ) (kept : KeptGroup) → slice_get groups place ≡ Some kept → IsKeptOf log kept

-- which groups they are
abbrev pub ids_of : List KeptGroup → List PgId
ids_of groups = map (λ kept. kept.pg) groups

-- the groups of the list that are marked, in its order
abbrev pub marks_in : List KeptGroup → List PgId
marks_in groups = ids_of (filter lacks_view groups)

-- those that have to be worked out, or were when more than n entries were read
abbrev pub newer_in : ℕ → List KeptGroup → List PgId
newer_in n groups = ids_of (filter (is_newer n) groups)

-- each group, and when it was last worked out
abbrev pub worked_in : List KeptGroup → List WorkedGroup
worked_in groups = map (λ kept. record { pg = kept.pg; count = worked_count kept }) groups

-- each of the groups is marked
abbrev pub AreAllMarked : List KeptGroup → Type 0
AreAllMarked groups = All (λ kept. lacks_view kept ≡ true) groups

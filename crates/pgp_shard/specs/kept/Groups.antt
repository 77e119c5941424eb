-- What follows for a shard from the entries that it has read: the map that they make, and the shard's groups (this project's
-- own choice).
use Rattle.std.specs.Prelude.{◌≡◌, ℕ, ◌++◌, ◌&&◌, not, List, [], ◌∷◌, slice_get, set, Option, None, Some, IfSome, is_some, option_map, Result, OnOk, OnErr, Bool, true, false, length, if◌then◌else◌}
use Rattle.std.specs.HashMap as hash
use Rattle.std.specs.Option.{option_map_or}
use Rattle.std.specs.declared.alloc.AllocError.{AllocError}
use Rattle.pgp_ids.specs.declared.entry.Entry.{Entry}
use Rattle.pgp_ids.specs.declared.entry.Entry.TheVariants as entry
use Rattle.pgp_ids.specs.declared.incremental.Incremental.{Incremental}
use Rattle.pgp_ids.specs.declared.pg_id.PgId.{PgId}
use Rattle.pgp_map.specs.MapFault.{then_with}
use Rattle.pgp_map.specs.MapOf.{IsMapOf}
use Rattle.pgp_map.specs.Pools.{has_group, is_same_group}
use Rattle.pgp_group.specs.Entries.{incs_of}
use Rattle.pgp_group.specs.GroupHistory.{makes}
use Rattle.pgp_group.specs.Touched.{is_touched}
use Rattle.pgp_log.specs.Fits.{fits}
use Rattle.pgp_shard.specs.kept.KeptGroup.{AreAllMarked, AreKeptOf, IsStep, ids_of, lacks_view, marks_in, worked_in}
use Rattle.pgp_shard.specs.kept.Rows.{AreRowsOf, IsRowOf}
use Rattle.pgp_log.specs.Log.{is_legal}
use Rattle.pgp_shard.specs.Shard.{AreMarked, Shard, is_among, is_own, worked_at}
use Rattle.pgp_log.specs.declared.before.MapBefore.{MapBefore}
use Rattle.pgp_shard.specs.declared.groups.Groups.{Groups}
use Rattle.pgp_shard.specs.declared.kept_group.KeptGroup.{KeptGroup}
use Rattle.pgp_shard.specs.declared.owner.Owner.{Owner}
use Rattle.pgp_shard.specs.declared.row.Row.{Row}

-- ---- the groups that are kept

-- the table says of each group at which place it stands, and of no other; and so stand the rows
pub record AreAtPlaces (groups : Groups) : Type 0 where
  pub there : (pg : PgId) (place : ℕ) → hash.get is_same_group groups.places pg ≡ Some place → slice_get (ids_of groups.kept.items) place ≡ Some pg
  pub found : (pg : PgId) (place : ℕ) → slice_get (ids_of groups.kept.items) place ≡ Some pg → hash.get is_same_group groups.places pg ≡ Some place
  pub rows : AreRowsOf groups.rows.items groups.kept.items

-- until one of them is worked out, all are marked
abbrev pub AreMarkedAtFirst : Groups → Type 0
AreMarkedAtFirst groups = groups.some_worked_out ≡ false → AreAllMarked groups.kept.items

-- the groups are kept, each at its place
pub record AreGroupsOf (log : List Entry) (groups : Groups) : Type 0 where
  pub each : AreKeptOf log groups.kept.items
  pub places_are : AreAtPlaces groups
  pub marked_are : AreMarkedAtFirst groups

-- the groups that are marked: they have to be worked out anew at the next question
abbrev pub marks_of : Groups → List PgId
marks_of groups = marks_in groups.kept.items

-- the group is one of those that are kept
abbrev pub keeps : PgId → Groups → Bool
keeps pg groups = is_among pg (ids_of groups.kept.items)

-- each group that was kept is kept still
abbrev pub KeepsAll : Groups → Groups → Type 0
KeepsAll before after = (pg : PgId) → keeps pg before ≡ true → keeps pg after ≡ true

-- when the group was last worked out
abbrev pub worked_of : Groups → PgId → ℕ
worked_of groups pg = worked_at (worked_in groups.kept.items) pg

-- each group that was marked is marked still, and one that isn't was last worked out when it was before
pub record KeepsMarks (before after : Groups) : Type 0 where
  pub marks : (pg : PgId) → is_among pg (marks_of before) ≡ true → is_among pg (marks_of after) ≡ true
  pub worked : (pg : PgId) → is_among pg (marks_of after) ≡ false → worked_of after pg ≡ worked_of before pg

-- each group that was kept is kept still; what was marked is marked still; and if all were marked, all are
pub record HasStill (before after : Groups) : Type 0 where
  pub groups_are : KeepsAll before after
  pub kept : KeepsMarks before after
  pub marked : AreAllMarked before.kept.items → AreAllMarked after.kept.items

-- the entry marks only groups that it touches: each other is marked after it where it was before
abbrev pub MarksTouched : List Entry → Entry → Groups → Groups → Type 0
MarksTouched log new before after =
    (pg : PgId) → is_touched log new pg ≡ false → is_among pg (marks_of after) ≡ is_among pg (marks_of before)

-- ---- the owner's groups

-- the group is one of the owner's
abbrev pub owns : Owner → PgId → Bool
owns owner pg = is_own owner.shard owner.shards pg

-- if the group is the owner's and the map has it, it is kept
abbrev pub IsKeptIfOwn : Owner → List Incremental → Groups → PgId → Type 0
IsKeptIfOwn owner incs groups pg = owns owner pg ≡ true → has_group incs pg ≡ true → keeps pg groups ≡ true

-- if the group is kept, it is the owner's and the map has it
abbrev pub IsOwnIfKept : Owner → List Incremental → Groups → PgId → Type 0
IsOwnIfKept owner incs groups pg = keeps pg groups ≡ true → (owns owner pg && has_group incs pg) ≡ true

-- just those groups are kept that are the owner's and that the map has
abbrev pub HasOwn : Owner → List Incremental → Groups → Type 0
HasOwn owner incs groups = (pg : PgId) → keeps pg groups ≡ (owns owner pg && has_group incs pg)

-- ---- as the log grows

-- the log is legal, the map is the one that it makes, what is kept of each group is what the log says of it, and just the
-- owner's groups that the map has are kept
pub record AreOwnGroupsOf (owner : Owner) (log : List Entry) (groups : Groups) : Type 0 where
  pub legal : is_legal log ≡ true
  pub map_is : IsMapOf (incs_of log) groups.map
  pub groups_are : AreGroupsOf log groups
  pub own_are : HasOwn owner (incs_of log) groups

-- this holds of each owner, and of each log from which the owner's groups follow
abbrev pub OfOwnLog : Groups → (Owner → List Entry → Type 0) → Type 0
OfOwnLog groups P = (owner : Owner) (log : List Entry) → AreOwnGroupsOf owner log groups → P owner log

-- this holds of each log from which the owner's groups follow, and that takes the entry next
abbrev pub OfNextOwn : Owner → Groups → Entry → (List Entry → Type 0) → Type 0
OfNextOwn owner groups new P = (log : List Entry) → AreOwnGroupsOf owner log groups → fits log new ≡ None → P log

-- no group comes to be marked; those that are no more were worked out by this many entries, and each other was when it was
pub record RenewsMarks (count : ℕ) (before after : Groups) : Type 0 where
  pub marks : (pg : PgId) → is_among pg (marks_of after) ≡ true → is_among pg (marks_of before) ≡ true
  pub worked : (pg : PgId) → worked_of after pg
      ≡ (if is_among pg (marks_of before) && not (is_among pg (marks_of after)) then count else worked_of before pg)

-- they follow still from each log of this many entries from which they followed before, as some are worked out
abbrev pub FollowStill : ℕ → Groups → Groups → Type 0
FollowStill count before after =
    OfOwnLog before (λ owner log. length log ≡ count → AreOwnGroupsOf owner log after × RenewsMarks count before after)

-- the map has an incremental that comes next in the log; the owner's groups that the map before has are kept, and only groups
-- of the owner that the map after has
pub record IsStepping (owner : Owner) (log : List Entry) (inc : Incremental) (groups : Groups) : Type 0 where
  pub before : MapBefore
  pub step : IsStep log inc before groups.map
  pub groups_are : AreGroupsOf (log ++ entry.Inc inc ∷ []) groups
  pub own_are : (pg : PgId) → IsKeptIfOwn owner (incs_of log) groups pg
  pub only_own : (pg : PgId) → IsOwnIfKept owner (then_with (incs_of log) inc) groups pg

-- In some log the incremental comes next, and the map has it.
pub record CanStepOn (owner : Owner) (groups : Groups) (inc : Incremental) : Type 0 where
  pub log : List Entry
  pub is : IsStepping owner log inc groups

-- An incremental that comes next in some log makes the pool, and the map has it.
pub record CanAddTo (owner : Owner) (groups : Groups) (id : ℕ) : Type 0 where
  pub inc : Incremental
  pub can : CanStepOn owner groups inc
  pub made : makes id inc ≡ true

-- Some log, of which these are the owner's groups, takes the entry next.
pub record CanAbsorb (owner : Owner) (groups : Groups) (new : Entry) : Type 0 where
  pub log : List Entry
  pub is : AreOwnGroupsOf owner log groups
  pub fits : fits log new ≡ None

-- Some log, of which these are the groups of some owner, takes the incremental next.
pub record CanAbsorbInc (groups : Groups) (inc : Incremental) : Type 0 where
  pub owner : Owner
  pub can : CanAbsorb owner groups (entry.Inc inc)

-- one group more is kept, at the next place
pub record HasOneMore (kept : KeptGroup) (old new : Groups) : Type 0 where
  pub row : Row
  pub map : new.map ≡ old.map
  pub found : (pg : PgId) → hash.get is_same_group new.places pg ≡ (if is_same_group kept.pg pg then Some (length old.kept.items) else hash.get is_same_group old.places pg)
  pub rows : new.rows.items ≡ old.rows.items ++ row ∷ []
  pub row_is : IsRowOf row kept
  pub items : new.kept.items ≡ old.kept.items ++ kept ∷ []
  pub worked : new.some_worked_out ≡ old.some_worked_out

-- Some log, by which these groups are kept, takes the incremental next, and the map has it.
pub record CanPassOn (groups : Groups) (inc : Incremental) (before : MapBefore) : Type 0 where
  pub log : List Entry
  pub are : AreKeptOf log groups.kept.items
  pub rows : AreRowsOf groups.rows.items groups.kept.items
  pub step : IsStep log inc before groups.map

-- Each of the groups has taken the incremental, in each log that takes it next. It marks only groups that it touches, and takes
-- no mark away.
pub record HavePassedOn (inc : Incremental) (before : MapBefore) (old new : Groups) : Type 0 where
  pub map : new.map ≡ old.map
  pub places : new.places ≡ old.places
  pub worked : new.some_worked_out ≡ old.some_worked_out
  pub ids : ids_of new.kept.items ≡ ids_of old.kept.items
  pub rows : AreRowsOf new.rows.items new.kept.items
  pub each : (log : List Entry) → AreKeptOf log old.kept.items → IsStep log inc before old.map → AreKeptOf (log ++ entry.Inc inc ∷ []) new.kept.items
  pub marks : (log : List Entry) → AreKeptOf log old.kept.items → IsStep log inc before old.map → MarksTouched log (entry.Inc inc) old new
  pub kept : KeepsMarks old new
  pub marked : AreAllMarked old.kept.items → AreAllMarked new.kept.items

-- of the groups only the one at this place was to be worked out, where it is marked: it is another now, whose view is there, unless
-- there was no memory
pub record IsRenewedAt (place : ℕ) (result : Result (Unit {0}) AllocError) (old new : Groups) : Type 0 where
  pub before : KeptGroup
  pub after : KeptGroup
  pub there : slice_get old.kept.items place ≡ Some before
  pub pg : after.pg ≡ before.pg
  pub kept : new.kept.items ≡ set old.kept.items place after
  pub places : new.places ≡ old.places
  pub view : OnOk result (is_some after.view ≡ true)
  pub wants : OnErr result (lacks_view before ≡ true)

-- ---- beside the entries

-- the log is legal, and what a shard keeps beside it, if anything, follows from it
pub record IsKeptBeside (owner : Owner) (log : List Entry) (groups : Option Groups) : Type 0 where
  pub legal : is_legal log ≡ true
  pub groups_are : IfSome groups (AreOwnGroupsOf owner log)

-- this holds of each legal log from which follows what the shard keeps beside it, and that takes the entry next
abbrev pub OfNextBeside : Owner → Option Groups → Entry → (List Entry → Type 0) → Type 0
OfNextBeside owner groups new P = (log : List Entry) → IsKeptBeside owner log groups → fits log new ≡ None → P log

-- Some legal log, from which follows what the shard keeps beside it, takes the entry next.
pub record CanReadOn (owner : Owner) (groups : Option Groups) (new : Entry) : Type 0 where
  pub log : List Entry
  pub is : IsKeptBeside owner log groups
  pub fits : fits log new ≡ None

-- the owner's shard, which has read these entries and keeps this beside them
abbrev pub shard_with : Owner → List Entry → Option Groups → Shard
shard_with owner log groups = record {
  front = log;
  shard = owner.shard;
  shards = owner.shards;
  marks = option_map marks_of groups;
  worked = option_map_or (λ kept. worked_in kept.kept.items) groups [];
}

-- the groups were last worked out when the shard says
abbrev pub AreWorkedAt : Shard → Groups → Type 0
AreWorkedAt s groups = (pg : PgId) → worked_of groups pg ≡ worked_at s.worked pg

-- the groups follow from the log; where the shard kept nothing beside it, all are marked, and else they are those that it kept
pub record AreMadeBeside (owner : Owner) (log : List Entry) (before : Option Groups) (groups : Groups) : Type 0 where
  pub are : AreOwnGroupsOf owner log groups
  pub marks : AreMarked (shard_with owner log before) (marks_of groups)
  pub worked : AreWorkedAt (shard_with owner log before) groups

-- A group that needn't be told of each epoch: what it is by later maps, as long as it lies as before.
use Rattle.pgp_group.proofs.Common.{◌≡◌, ℕ, List, [], ◌∷◌, ◌++◌, Option, Some, None, false, ◌||◌, ◌+◌, map, refl, ap, ◌∙◌, subst, arith, list_any, or_parts, enough_of, is_by_place, eq-is_same, AnyCode, Entry, PrimaryFacts, DeviceEpoch, Incremental, PgId, PoolSpec, History, epoch, map_fault, then_with, pool, membership, may_place_elsewhere, inc_of, incs_of, passed_over, primary_facts, cleans, group_with, IsGroupOf, changes_pool, changes_temp, has_to_do_with, is_touched, may_lie_on, may_move, turned_devices, Group}
use Rattle.pgp_ids.specs.declared.entry.Entry.TheVariants as entry
use Rattle.pgp_interval.proofs.RunningLemmas.{stays}
use Rattle.pgp_group.specs.Reaching.{reaching}
use Rattle.pgp_group.proofs.GroupLemmas.{IsGroupOf-inc, names-stay}
use Rattle.pgp_group.proofs.GrowthLemmas.{epoch-snoc, history-last, later_epoch}
use Rattle.pgp_group.proofs.HistoryLemmas.{history-current}
use Rattle.pgp_group.proofs.Lists.{none-append, none-narrower, one_new}
use Rattle.pgp_group.proofs.UntoldLemmas.{IsLeft, UpsStay, members-same, pool-same, same_up}
use Rattle.pgp_group.proofs.UntouchedLemmas.{IsApart, apart}

-- ---- the epoch that a group has reached

-- that of its log
pub reached-now : (log : List Entry) (pg : PgId) (group : Group) → IsGroupOf log pg group → IsGroupOf log pg (reaching (epoch (incs_of log)) group)
reached-now log pg group is =
    let at : group.intervals.last ≡ epoch (incs_of log) = is.keeps.intervals_are.last_is ∙ history-last (incs_of log) pg is.history is.ascend is.history_is in
    subst (λ (e : ℕ). IsGroupOf log pg (reaching e group)) at is

-- its current interval goes on
pub reaches-next : (log : List Entry) (inc : Incremental) (pg : PgId) (group : Group) → map_fault (incs_of log) inc ≡ None → membership (then_with (incs_of log) inc) pg ≡ membership (incs_of log) pg
    → IsGroupOf log pg (reaching (epoch (incs_of log)) group) → IsGroupOf (log ++ entry.Inc inc ∷ []) pg (reaching (epoch (incs_of (log ++ entry.Inc inc ∷ []))) group)
reaches-next log inc pg group fine same is =
    let h : History AnyCode = is.history in
    let facts : PrimaryFacts = primary_facts (incs_of log) h.current.acting_primary in
    let to : ℕ = epoch (incs_of (log ++ entry.Inc inc ∷ [])) in
    let passed : ℕ = passed_over (incs_of log) inc in
    let next : to ≡ epoch (incs_of log) + passed + 1 =
    omega (arith, ap epoch (one_new inc_of log (entry.Inc inc) inc refl), epoch-snoc (incs_of log) inc, later_epoch (incs_of log) inc fine) in
    IsGroupOf-inc log inc pg (reaching (epoch (incs_of log)) group) (reaching to group) h.current is fine (same ∙ history-current (incs_of log) pg h is.history_is) refl refl refl refl
    (stays enough_of is_by_place (cleans (group_with log pg h)) h (reaching (epoch (incs_of log)) group).intervals is.keeps.intervals_are passed h.current facts to next (eq-is_same _ _ is.keeps.intervals_are.current_is))
    (names-stay log inc pg h passed facts group.named is.keeps.named_are)

-- ---- an incremental by which the group lies as before

-- the parts of the test
record IsUnmoved (incs : List Incremental) (inc : Incremental) (pg : PgId) : Type 0 where
  left : IsLeft incs inc pg
  devices : list_any (may_lie_on incs pg) (turned_devices inc) ≡ false

unmoved : (incs : List Incremental) (inc : Incremental) (pg : PgId) → may_move incs inc pg ≡ false → IsUnmoved incs inc pg
unmoved incs inc pg still =
    let a = or_parts (may_place_elsewhere incs inc pg || changes_pool inc pg.pool || changes_temp inc pg) (list_any (may_lie_on incs pg) (turned_devices inc)) still in
    grind (arith, or_parts (may_place_elsewhere incs inc pg || changes_pool inc pg.pool) (changes_temp inc pg) a.0)

pub left-unmoved : (incs : List Incremental) (inc : Incremental) (pg : PgId) → may_move incs inc pg ≡ false → IsLeft incs inc pg
left-unmoved incs inc pg still = (unmoved incs inc pg still).left

-- the devices on which it lies are up where they were
ups : (incs : List Incremental) (inc : Incremental) (pg : PgId) (made : PoolSpec) → IsUnmoved incs inc pg → pool incs pg.pool ≡ Some made → UpsStay incs inc pg made
ups incs inc pg made is there = record {
  placed = λ osd stands. grind (arith, same_up (may_lie_on incs pg) incs inc osd is.devices (grind arith));
  given = λ osd stands. grind (arith, same_up (may_lie_on incs pg) incs inc osd is.devices (grind arith));
}

pub lies-as-before : (incs : List Incremental) (inc : Incremental) (pg : PgId) → map_fault incs inc ≡ None → may_move incs inc pg ≡ false → membership (then_with incs inc) pg ≡ membership incs pg
lies-as-before incs inc pg fine still = at (pool incs pg.pool) refl where
  is : IsUnmoved incs inc pg
  is = unmoved incs inc pg still

  at : (found : Option PoolSpec) → pool incs pg.pool ≡ found → membership (then_with incs inc) pg ≡ membership incs pg
  at None none = grind (arith, pool-same incs inc pg.pool is.left.pool)
  at (Some made) found =
      grind (arith, pool-same incs inc pg.pool is.left.pool, members-same incs inc pg made fine is.left found (ups incs inc pg made is found))

-- an incremental that doesn't touch the group leaves it where it is
pub untouched-unmoved : (log : List Entry) (inc : Incremental) (pg : PgId) → is_touched log (entry.Inc inc) pg ≡ false → may_move (incs_of log) inc pg ≡ false
untouched-unmoved log inc pg untouched =
    let is : IsApart log inc pg = apart log inc pg untouched in
    let thru : List ℕ = map (λ (told : DeviceEpoch). told.osd) inc.up_thru in
    let lost : List ℕ = map (λ (told : DeviceEpoch). told.osd) inc.lost in
    let turned : list_any (has_to_do_with log pg) (turned_devices inc) ≡ false =
    (none-append (has_to_do_with log pg) (turned_devices inc) thru (none-append (has_to_do_with log pg) (turned_devices inc ++ thru) lost is.devices).0).0 in
    let none : list_any (may_lie_on (incs_of log) pg) (turned_devices inc) ≡ false =
    none-narrower (may_lie_on (incs_of log) pg) (has_to_do_with log pg)
    (λ osd lies. grind arith) (turned_devices inc) turned in
    rw (is.left.still, is.left.pool, is.left.temp, none) refl

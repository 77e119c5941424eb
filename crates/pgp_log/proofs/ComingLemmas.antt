-- A group comes into a log, and is absent before.
use Rattle.pgp_log.proofs.Common.{◌≡◌, ℕ, ◌<◌, List, [], ◌∷◌, ◌++◌, Option, Some, None, Bool, true, false, nat_eq, nat_lt, option_map, length, length-append, refl, ap, sym, ◌∙◌, arith, flat_map, option_map_or, false_from_ne_true, true_from_ne_false, true≢false, filter_map-append, Entry, Incremental, PgId, PoolSizes, PoolSpec, Refusal, checked-has_group, are_checked, HasGroup, epoch, map_fault, then_with, IsMapOf, with_sizes, has_group, is_same_group, OsdMap, infos-other, infos-same, reports-other, reports-same, epoch-snoc, has_group-grows, made_at-made, told-stays, inc_of, incs_of, group_history, makes, made_at, IsGroupOf, IsSilent, Group, entry_fault, HasInc, has_unknown_group, report_fault, same_group}
use Rattle.pgp_ids.specs.declared.entry.Entry.TheVariants as entry
use Rattle.pgp_ids.specs.declared.member.Member.{Member}
use Rattle.pgp_map.specs.Last.{last_where}
use Rattle.pgp_log.proofs.TakeLemmas.{incs-inc, incs-other}

-- ---- the group comes

-- sizes change no pool's number of groups
groups-sized : (pg : PgId) (sizes others : Option PoolSizes) (base : Option PoolSpec)
    → option_map_or (λ made. nat_lt pg.pg made.pg_num) (option_map (with_sizes sizes) base) false
    ≡ option_map_or (λ made. nat_lt pg.pg made.pg_num) (option_map (with_sizes others) base) false
groups-sized pg sizes others None = refl
groups-sized pg None None (Some made) = refl
groups-sized pg None (Some other) (Some made) = refl
groups-sized pg (Some sizes) None (Some made) = refl
groups-sized pg (Some sizes) (Some other) (Some made) = refl

-- an incremental that doesn't make the pool leaves it its groups
pub has_group-same : (incs : List Incremental) (inc : Incremental) (pg : PgId) → makes pg.pool inc ≡ false → has_group (then_with incs inc) pg ≡ has_group incs pg
has_group-same incs inc pg unmade =
    let sizes : List Incremental → Option PoolSizes = λ l. last_where (λ given. nat_eq given.pool pg.pool) (flat_map (λ i. i.sizes) l) in
    let base = told-stays (λ (made : PoolSpec). nat_eq made.id pg.pool) (λ (i : Incremental). i.pools) incs inc unmade in
    ap (λ (o : Option PoolSpec). option_map_or (λ made. nat_lt pg.pg made.pg_num) (option_map (with_sizes (sizes (then_with incs inc))) o) false) base
    ∙ groups-sized pg (sizes (then_with incs inc)) (sizes incs) (last_where (λ made. nat_eq made.id pg.pool) (flat_map (λ i. i.pools) incs))

-- the incremental with which a group comes makes its pool
pub comes-with_pool : (incs : List Incremental) (inc : Incremental) (pg : PgId) → has_group incs pg ≡ false → has_group (then_with incs inc) pg ≡ true → makes pg.pool inc ≡ true
comes-with_pool incs inc pg absent there =
    true_from_ne_false (makes pg.pool inc) (λ unmade. true≢false (sym there ∙ has_group-same incs inc pg unmade ∙ absent))

pub made-now : (incs : List Incremental) (inc : Incremental) (pg : PgId) → has_group incs pg ≡ false → has_group (then_with incs inc) pg ≡ true → made_at (then_with incs inc) pg.pool ≡ epoch (then_with incs inc)
made-now incs inc pg absent there = made_at-made incs inc pg.pool (comes-with_pool incs inc pg absent there) ∙ sym (epoch-snoc incs inc)

-- ---- the group is absent

-- the map of the log has no such group, and none of the log's reports is of it
pub record IsAbsent (log : List Entry) (pg : PgId) : Type 0 where
  pub absent : has_group (incs_of log) pg ≡ false
  pub silent : IsSilent log pg

-- an incremental reports nothing
pub silent-inc : (log : List Entry) (inc : Incremental) (pg : PgId) → IsSilent log pg → IsSilent (log ++ entry.Inc inc ∷ []) pg
silent-inc log inc pg silent = record {
  infos = infos-same log (entry.Inc inc) pg refl ∙ silent.infos;
  reports = reports-same log (entry.Inc inc) pg refl ∙ silent.reports;
}

known-group : (incs : List Incremental) (pg : PgId) (member : Member) (stamp : ℕ) (bad : Bool) → report_fault incs pg member stamp bad ≡ None → has_group incs pg ≡ true
known-group incs pg member stamp bad none =
    true_from_ne_false (has_group incs pg) (λ absent. let unknown : has_unknown_group incs pg ≡ true = rw absent refl in refused (rw unknown at none))
  where
    refused : {why : Refusal} → Some why ≡ None → ⊥
    refused same = cc

-- a report that isn't refused is of another group than one that is absent
of-another : (incs : List Incremental) (told pg : PgId) → has_group incs told ≡ true → has_group incs pg ≡ false → is_same_group told pg ≡ false
of-another incs told pg there absent =
    false_from_ne_true (is_same_group told pg) (λ same. true≢false (sym there ∙ ap (has_group incs) (same_group told pg same) ∙ absent))

pub absent-other : (log : List Entry) (new : Entry) (pg : PgId) → inc_of new ≡ None → entry_fault log new ≡ None → IsAbsent log pg → IsAbsent (log ++ new ∷ []) pg
absent-other log new pg none fine absent = record {
  absent = ap (λ (l : List Incremental). has_group l pg) (incs-other log new none) ∙ absent.absent;
  silent = silent new none fine;
}
  where
    silent : (e : Entry) → inc_of e ≡ None → entry_fault log e ≡ None → IsSilent (log ++ e ∷ []) pg
    silent (entry.Inc inc) none fine = cc
    silent (entry.Info info) none fine = record {
      infos = infos-other log info pg (of-another (incs_of log) info.pg pg (known-group (incs_of log) info.pg info.member info.stamp _ fine) absent.absent) ∙ absent.silent.infos;
      reports = reports-same log (entry.Info info) pg refl ∙ absent.silent.reports;
    }
    silent (entry.Entries report) none fine = record {
      infos = infos-same log (entry.Entries report) pg refl ∙ absent.silent.infos;
      reports = reports-other log report pg (of-another (incs_of log) report.pg pg (known-group (incs_of log) report.pg report.member report.stamp _ fine) absent.absent) ∙ absent.silent.reports;
    }
    silent entry.Close none fine = record { infos = infos-same log entry.Close pg refl ∙ absent.silent.infos; reports = reports-same log entry.Close pg refl ∙ absent.silent.reports }

-- ---- the group is there

-- the map that an incremental makes has the group
pub next-there : (log : List Entry) (pg : PgId) (inc : Incremental) (group : Group) (map : OsdMap) → IsGroupOf log pg group → map_fault (incs_of log) inc ≡ None
    → are_checked (then_with (incs_of log) inc) ≡ true → IsMapOf (then_with (incs_of log) inc) map → HasGroup map pg
next-there log pg inc group map is fine checked made =
    checked-has_group (then_with (incs_of log) inc) map pg made checked (has_group-grows (incs_of log) inc pg is.history fine is.history_is)

-- ---- a log with an incremental

pub inc-after : (log : List Entry) (new : Entry) (inc : Incremental) → inc_of new ≡ Some inc → HasInc (log ++ new ∷ [])
inc-after log new inc some = rw (incs-inc log new inc some) (omega (arith, length-append (incs_of log) (inc ∷ [])))

pub inc-front : (front rest : List Entry) → HasInc front → HasInc (front ++ rest)
inc-front front rest has = rw (filter_map-append inc_of front rest) (omega (arith, has, length-append (incs_of front) (incs_of rest)))

-- a group is there by an incremental
pub inc-of-group : (log : List Entry) (pg : PgId) (group : Group) → IsGroupOf log pg group → HasInc log
inc-of-group log pg group is = go (incs_of log) is.history_is where
  go : (incs : List Incremental) → group_history incs pg ≡ Some is.history → 0 < length incs
  go [] there = cc
  go (inc ∷ incs) there = omega arith

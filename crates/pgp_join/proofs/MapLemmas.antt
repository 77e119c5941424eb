-- Maps that are alike refuse the same incrementals, and stay alike as others come.
use Rattle.pgp_group.proofs.Common.{◌≡◌, ℕ, ◌+◌, ◌≤◌, List, Bool, true, false, not, ◌&&◌, ◌||◌, Option, Some, None, nat_eq, nat_lt, map, refl, ap, sym, ◌∙◌, arith, cond, cases_Bool, nat_tests, inl, inr, list_any, flat_map-push, option_map, option_map_or, option_or, then_with, pool, is_same_group, has_group, is_some, with_sizes, device, exists, is_up, boots, destroys, takes_down, last_where, lost_at, up_from, up_thru, are_checked, is_faultless, taken-induction, none_is, DeviceEpoch, Incremental, PgId, PoolSpec, if◌then◌else◌}
use Rattle.std.specs.Prelude.{sum_by}
use Rattle.std.proofs.lemmas.List.Sums.{sum_by-append}
use Rattle.pgp_ids.specs.Pool.{is_kind_by_place}
use Rattle.pgp_crush.specs.Bucket.{bucket_of}
use Rattle.pgp_tables.specs.DeviceTable.{after_down, after_gone, after_up, changed, with_lost_at, with_up_thru}
use Rattle.pgp_tables.specs.PoolTable.{or_made}
use Rattle.pgp_tables.specs.TempTable.{with_temp}
use Rattle.pgp_tables.specs.declared.device.Device.{Device}
use Rattle.pgp_map.specs.MapFault.{map_fault, given_fault, has_ahead, has_already_down, has_already_up, has_bad_pool, has_bad_temp, has_epoch_gap, has_pool_known, has_still_up, names_twice, has_unknown_device, has_up_thru_back, are_sizes, devices_that_must_exist, is_bad_list, is_pool}
use Rattle.pgp_map.specs.Pools.{group_count}
use Rattle.pgp_map.specs.WeightTable.{with_weight}
use Rattle.pgp_map.specs.declared.fault.MapFault.TheVariants.{EpochGap, Twice, UnknownDevice, AlreadyUp, AlreadyDown, StillUp, UpThruBack, Ahead, BadPool, PoolKnown, BadTemp}
use Rattle.pgp_map.proofs.DeviceLemmas.{device-push, is_up-push}
use Rattle.pgp_map.proofs.FaultLemmas.{no_fault}
use Rattle.pgp_map.proofs.MapLemmas.{IsUnsized, epoch-push, made_in, pool-push, sizes-push, sizes_in, temp-push, tree-push, weight-push}
use Rattle.pgp_group.proofs.DeviceLemmas.{up_from-within}
use Rattle.pgp_group.proofs.GrowthLemmas.{later_epoch}
use Rattle.pgp_map.specs.Alike.{SayTheSame, read_of}
use Rattle.pgp_join.specs.Alike.{AreAlikeMaps}

-- ---- a device

parts : (b g t : Bool) (at : ℕ) (u l : Option DeviceEpoch) (d e : Device) → read_of e ≡ read_of d → d.up_from ≤ at → e.up_from ≤ at
    → read_of (with_lost_at l (with_up_thru u (after_up b at (after_gone g (after_down t at e))))) ≡ read_of (with_lost_at l (with_up_thru u (after_up b at (after_gone g (after_down t at d)))))
parts b g t at u l d e same below below' = grind (arith, nat_tests)

changed-alike : (inc : Incremental) (osd : ℕ) (d e : Device) → read_of e ≡ read_of d → d.up_from ≤ inc.epoch → e.up_from ≤ inc.epoch → read_of (changed inc osd e) ≡ read_of (changed inc osd d)
changed-alike inc osd d e same below below' =
    parts (boots osd inc) (destroys osd inc) (takes_down osd inc) inc.epoch (last_where (λ entry. nat_eq entry.osd osd) inc.up_thru) (last_where (λ entry. nat_eq entry.osd osd) inc.lost) d e same below below'

-- ---- pools

-- a pool that isn't there was given no sizes
unsized : (incs : List Incremental) → are_checked incs ≡ true → (id : ℕ) → IsUnsized incs id
unsized =
    taken-induction is_faultless (λ incs. (id : ℕ) → IsUnsized incs id) (λ id none. refl)
    (λ incs inc checked faultless before id. sizes-push incs inc id (no_fault incs inc (none_is (map_fault incs inc) faultless)) (before id))

pub pool-more : (incs : List Incremental) (inc : Incremental) (id : ℕ) → are_checked incs ≡ true → has_pool_known incs inc ≡ false
    → pool (then_with incs inc) id ≡ option_map (with_sizes (sizes_in inc.sizes id)) (or_made (made_in inc.pools id) (pool incs id))
pool-more incs inc id checked new = pool-push incs inc id new (unsized incs checked id)

pub count-more : (incs : List Incremental) (inc : Incremental) → group_count (then_with incs inc) ≡ group_count incs + sum_by (λ made. made.pg_num) inc.pools
count-more incs inc = simp (flat_map-push, sum_by-append)

module _ (incs others : List Incremental) (alike : SayTheSame incs others) where
  pub exists-alike : (osd : ℕ) → exists others osd ≡ exists incs osd
  exists-alike osd = ap (λ (d : Device). d.exists) (alike.devices_are osd)

  pub up-alike : (osd : ℕ) → is_up others osd ≡ is_up incs osd
  up-alike osd = ap (λ (d : Device). d.is_up) (alike.devices_are osd)

  pub thru-alike : (osd : ℕ) → up_thru others osd ≡ up_thru incs osd
  thru-alike osd = ap (λ (d : Device). d.up_thru) (alike.devices_are osd)

  pub lost-alike : (osd : ℕ) → lost_at others osd ≡ lost_at incs osd
  lost-alike osd = ap (λ (d : Device). d.lost_at) (alike.devices_are osd)

  -- since when a device is up that is
  pub from-alike : (osd : ℕ) → is_up incs osd ≡ true → up_from others osd ≡ up_from incs osd
  from-alike osd up =
      let from = ap (λ (d : Device). d.up_from) (alike.devices_are osd) in
      grind (arith, from, up-alike osd)

  pub has_group-alike : (pg : PgId) → has_group others pg ≡ has_group incs pg
  has_group-alike pg = ap (λ (o : Option PoolSpec). option_map_or (λ made. nat_lt pg.pg made.pg_num) o false) (alike.pool_is pg.pool)

  -- ---- an incremental, and the same one behind another epoch

  module _ (inc : Incremental) (after : ℕ) where
    abbrev behind : Incremental
    behind = record inc { after = after }

    unknown : has_unknown_device others behind ≡ has_unknown_device incs inc
    unknown = λ i. list_any (λ osd. not (exists-alike osd i || boots osd inc)) (devices_that_must_exist inc)

    already_up : has_already_up others behind ≡ has_already_up incs inc
    already_up = λ i. list_any (λ osd. up-alike osd i) inc.up

    already_down : has_already_down others behind ≡ has_already_down incs inc
    already_down = λ i. list_any (λ osd. exists-alike osd i && not (up-alike osd i)) inc.down

    up-next : (osd : ℕ) → is_up (then_with others behind) osd ≡ is_up (then_with incs inc) osd
    up-next osd =
        is_up-push others behind osd ∙ ap (cond (boots osd inc || takes_down osd inc || destroys osd inc) (boots osd inc)) (up-alike osd) ∙ sym (is_up-push incs inc osd)

    still_up : has_still_up others behind ≡ has_still_up incs inc
    still_up = λ i. list_any (λ osd. up-alike osd i) inc.gone || list_any (λ entry. up-next entry.osd i) inc.lost

    back : has_up_thru_back others behind ≡ has_up_thru_back incs inc
    back = λ i. list_any (λ entry. nat_lt entry.epoch (thru-alike entry.osd i)) inc.up_thru

    bad_pool : has_bad_pool others behind ≡ has_bad_pool incs inc
    bad_pool = λ i.
        list_any (λ made. not (is_pool made)) inc.pools
        || list_any (λ sizes. not (are_sizes sizes.size sizes.min_size)
        || option_map_or (λ made. is_kind_by_place made.kind && not (nat_eq made.size sizes.size)) (alike.pool_is sizes.pool i) true) inc.sizes
        || nat_lt 16384 (alike.count_is i + sum_by (λ made. made.pg_num) inc.pools)

    known : has_pool_known others behind ≡ has_pool_known incs inc
    known = λ i. list_any (λ made. is_some (alike.pool_is made.id i)) inc.pools

    module _ (checked : are_checked incs ≡ true) (checked' : are_checked others ≡ true) where
      pool-next : has_pool_known incs inc ≡ false → (id : ℕ) → pool (then_with others behind) id ≡ pool (then_with incs inc) id
      pool-next new id =
          pool-more others behind id checked' (known ∙ new)
          ∙ ap (λ (o : Option PoolSpec). option_map (with_sizes (sizes_in inc.sizes id)) (or_made (made_in inc.pools id) o)) (alike.pool_is id)
          ∙ sym (pool-more incs inc id checked new)

      bad_temp : has_pool_known incs inc ≡ false → has_bad_temp others behind ≡ has_bad_temp incs inc
      bad_temp new = λ i. list_any (λ given. is_bad_list (pool-next new given.pg.pool i) given) inc.temp

      -- it is refused alike, where neither has a gap or both have one
      pub fault-same : has_epoch_gap others behind ≡ has_epoch_gap incs inc → map_fault others behind ≡ map_fault incs inc
      unfolding map_fault
      fault-same gap = elim (cases_Bool (has_pool_known incs inc)) [
        | inl there ↦
            let there' : has_pool_known others behind ≡ true = known ∙ there in
            rw (there, there')
            (λ i. if gap i then Some EpochGap
            else (if names_twice inc then Some Twice
            else (if unknown i then Some UnknownDevice
            else (if already_up i then Some AlreadyUp
            else (if already_down i then Some AlreadyDown
            else (if still_up i then Some StillUp
            else (if back i then Some UpThruBack
            else (if has_ahead inc then Some Ahead
            else (if bad_pool i then Some BadPool else Some PoolKnown)))))))))
        | inr new ↦ λ i.
            if gap i then Some EpochGap
            else (if names_twice inc then Some Twice
            else (if unknown i then Some UnknownDevice
            else (if already_up i then Some AlreadyUp
            else (if already_down i then Some AlreadyDown
            else (if still_up i then Some StillUp
            else (if back i then Some UpThruBack
            else (if has_ahead inc then Some Ahead
            else (if bad_pool i then Some BadPool
            else (if known i then Some PoolKnown
            else (if bad_temp new i then Some BadTemp
            else given_fault inc.crush))))))))))
      ]

      -- what they say stays the same
      pub next-same : map_fault incs inc ≡ None → map_fault others behind ≡ None → SayTheSame (then_with incs inc) (then_with others behind)
      next-same none none' =
          let fine = no_fault incs inc none in
          let fine' = no_fault others behind none' in
          record {
            devices_are = λ osd.
                let below : up_from incs osd ≤ inc.epoch = omega (arith, up_from-within osd incs checked, later_epoch incs inc none) in
                let below' : up_from others osd ≤ inc.epoch = omega (arith, up_from-within osd others checked', later_epoch others behind none') in
                ap read_of (device-push others behind osd) ∙ changed-alike inc osd (device incs osd) (device others osd) (alike.devices_are osd) below below' ∙ sym (ap read_of (device-push incs inc osd));
            weight_is = λ osd.
                weight-push others behind osd ∙ ap (with_weight (last_where (λ entry. nat_eq entry.osd osd) inc.weight)) (alike.weight_is osd) ∙ sym (weight-push incs inc osd);
            pool_is = pool-next fine.known;
            temp_is = λ pg.
                temp-push others behind pg fine' ∙ ap (with_temp (last_where (λ given. is_same_group given.pg pg) inc.temp)) (alike.temp_is pg) ∙ sym (temp-push incs inc pg fine);
            tree_is = tree-push others behind ∙ ap (option_or (option_map (map bucket_of) inc.crush)) alike.tree_is ∙ sym (tree-push incs inc);
            count_is = count-more others behind ∙ ap (λ (n : ℕ). n + sum_by (λ made. made.pg_num) inc.pools) alike.count_is ∙ sym (count-more incs inc);
          }

-- ---- maps of the same epoch

module _ (incs others : List Incremental) (alike : AreAlikeMaps incs others) (inc : Incremental) (checked : are_checked incs ≡ true) (checked' : are_checked others ≡ true) where
  pub fault-alike : map_fault others inc ≡ map_fault incs inc
  fault-alike =
      fault-same incs others alike.says inc inc.after checked checked' (ap (λ (e : ℕ). not (nat_eq inc.after e && nat_lt inc.after inc.epoch)) alike.epoch_is)

  pub next-alike : map_fault incs inc ≡ None → AreAlikeMaps (then_with incs inc) (then_with others inc)
  next-alike none = record {
    epoch_is = epoch-push others inc ∙ sym (epoch-push incs inc);
    says = next-same incs others alike.says inc inc.after checked checked' none (fault-alike ∙ none);
  }

-- An incremental that changes the epoch alone may be passed over by the next one.
use Rattle.pgp_group.proofs.Common.{◌≡◌, ℕ, ◌<◌, List, [], ◌∷◌, ◌++◌, true, false, Option, Some, None, nat_lt, length, refl, ap, sym, ◌∙◌, subst, arith, nat_tests, append-nil, filter_map-append, length-append, list_any-append, same_Some, AnyCode, Entry, Incremental, PgId, History, are_checked, epoch, map_fault, then_with, incs_of, infos_of, reports_of, device, group_history, group_with, les}
use Rattle.pgp_ids.specs.declared.pool.PoolSpec.{PoolSpec}
use Rattle.pgp_lists.proofs.Lists.{empty-list}
use Rattle.pgp_map.specs.FaultNumber.{refusal_of}
use Rattle.pgp_map.specs.Pools.{pool, with_sizes}
use Rattle.pgp_tables.specs.DeviceTable.{changed}
use Rattle.pgp_tables.specs.PoolTable.{or_made}
use Rattle.pgp_tables.specs.declared.device.Device.{Device}
use Rattle.std.specs.Option.{option_map}
use Rattle.pgp_ids.specs.declared.entry.Entry.TheVariants as entry
use Rattle.pgp_map.specs.MapFault.{has_epoch_gap}
use Rattle.pgp_map.proofs.CheckedLemmas.{checked-more}
use Rattle.pgp_map.proofs.DeviceLemmas.{device-push}
use Rattle.pgp_map.proofs.FaultLemmas.{no_fault}
use Rattle.pgp_map.proofs.MapLemmas.{nothing, epoch-push, temp-push, tree-push, weight-push}
use Rattle.pgp_group.specs.Entries.{info_of, report_of}
use Rattle.pgp_group.proofs.FirstLemmas.{moves, on, ends}
use Rattle.pgp_group.proofs.GrowthLemmas.{later_epoch}
use Rattle.pgp_group.proofs.HistoryLemmas.{history-current}
use Rattle.pgp_log.proofs.LogLemmas.{legal-checked, legal-snoc}
use Rattle.pgp_log.proofs.TakeLemmas.{faultless-inc, fits-faultless, fits-open_log, incs-inc}
use Rattle.pgp_log.specs.Fits.{entry_fault, fits, is_close}
use Rattle.pgp_log.specs.Log.{is_legal}
use Rattle.pgp_log.specs.Touch.{changes_nothing}
use Rattle.pgp_map.specs.Alike.{SayTheSame, read_of}
use Rattle.pgp_join.specs.Alike.{AreAlike, AreAlikeMaps, IsAlike, ending_from}
use Rattle.pgp_join.proofs.MapLemmas.{count-more, fault-same, next-same, pool-more}
use Rattle.pgp_join.proofs.StepLemmas.{Comes, inc-alike, past-on}
use Rattle.pgp_join.proofs.ViewLemmas.{members-alike}

-- what it doesn't have
record IsEmpty (inc : Incremental) : Type 0 where
  up : inc.up ≡ []
  down : inc.down ≡ []
  gone : inc.gone ≡ []
  weight : inc.weight ≡ []
  up_thru : inc.up_thru ≡ []
  lost : inc.lost ≡ []
  pools : inc.pools ≡ []
  sizes : inc.sizes ≡ []
  temp : inc.temp ≡ []
  crush : inc.crush ≡ None

not-filled : {X : Type 0} (xs : List X) → nat_lt 0 (length xs) ≡ false → xs ≡ []
not-filled [] none = refl
not-filled (x ∷ xs) none = grind (arith, nat_tests)

is-empty : (inc : Incremental) → changes_nothing inc ≡ true → IsEmpty inc
is-empty inc unchanging = record {
  up = empty-list inc.up (grind (arith, nat_tests));
  down = empty-list inc.down (grind (arith, nat_tests));
  gone = empty-list inc.gone (grind (arith, nat_tests));
  weight = not-filled inc.weight (grind (arith, nat_tests));
  up_thru = empty-list inc.up_thru (grind (arith, nat_tests));
  lost = empty-list inc.lost (grind (arith, nat_tests));
  pools = empty-list inc.pools (grind (arith, nat_tests));
  sizes = empty-list inc.sizes (grind (arith, nat_tests));
  temp = empty-list inc.temp (grind (arith, nat_tests));
  crush = nothing inc.crush (grind (arith, nat_tests));
}

-- ---- the map says the same, its epoch aside

unchanged : (a : Incremental) → IsEmpty a → (osd : ℕ) (d : Device) → changed a osd d ≡ d
unchanged a e osd d = rw (e.lost, e.up_thru, e.up, e.gone, e.down) refl

same-pool : (o : Option PoolSpec) → option_map (with_sizes None) (or_made None o) ≡ o
same-pool None = refl
same-pool (Some made) = refl

says-same : (incs : List Incremental) (a : Incremental) → IsEmpty a → are_checked incs ≡ true → map_fault incs a ≡ None → SayTheSame (then_with incs a) incs
says-same incs a e checked fine =
    let none = no_fault incs a fine in
    record {
      devices_are = λ osd. sym (ap read_of (device-push incs a osd ∙ unchanged a e osd (device incs osd)));
      weight_is = λ osd. sym (weight-push incs a osd ∙ rw e.weight refl);
      pool_is = λ id. sym (pool-more incs a id checked none.known ∙ rw (e.sizes, e.pools) (same-pool (pool incs id)));
      temp_is = λ pg. sym (temp-push incs a pg none ∙ rw e.temp refl);
      tree_is = sym (tree-push incs a ∙ rw e.crush refl);
      count_is = sym (count-more incs a ∙ rw e.pools (omega arith));
    }

-- ---- the next incremental passes over it

module _ (log : List Entry) (a b : Incremental) (nothing : changes_nothing a ≡ true) (fit : fits log (entry.Inc a) ≡ None) (fit' : fits (log ++ entry.Inc a ∷ []) (entry.Inc b) ≡ None) (legal : is_legal log ≡ true) where
  abbrev incs : List Incremental
  incs = incs_of log

  -- the next one, which changes the map before
  abbrev over_a : Incremental
  over_a = record b { after = a.after }

  abbrev mid : List Entry
  mid = log ++ entry.Inc a ∷ []

  checked : are_checked incs ≡ true
  checked = legal-checked log legal

  mid-legal : is_legal mid ≡ true
  mid-legal = legal-snoc log (entry.Inc a) legal fit

  grows : incs_of mid ≡ then_with incs a
  grows = incs-inc log (entry.Inc a) a refl

  fine-a : map_fault incs a ≡ None
  fine-a = faultless-inc log (entry.Inc a) a refl (fits-faultless log (entry.Inc a) fit)

  fine-b : map_fault (incs_of mid) b ≡ None
  fine-b = faultless-inc mid (entry.Inc b) b refl (fits-faultless mid (entry.Inc b) fit')

  says : SayTheSame (incs_of mid) incs
  says = subst (λ (l : List Incremental). SayTheSame l incs) (sym grows) (says-same incs a (is-empty a nothing) checked fine-a)

  gap : has_epoch_gap incs over_a ≡ has_epoch_gap (incs_of mid) b
  gap =
      let first : has_epoch_gap incs a ≡ false = (no_fault incs a fine-a).gap in
      let next : has_epoch_gap (incs_of mid) b ≡ false = (no_fault (incs_of mid) b fine-b).gap in
      let later : epoch (incs_of mid) < b.epoch = later_epoch (incs_of mid) b fine-b in
      let at : epoch (incs_of mid) ≡ a.epoch = ap epoch grows ∙ epoch-push incs a in
      grind (arith, nat_tests, later_epoch incs a fine-a)

  fine-over : map_fault incs over_a ≡ None
  fine-over = fault-same (incs_of mid) incs says b a.after (legal-checked mid mid-legal) checked gap ∙ fine-b

  alike : (pg : PgId) (h was : History AnyCode) → group_history (incs_of mid) pg ≡ Some h → group_history incs pg ≡ Some was → IsAlike (group_with mid pg h) (group_with log pg was)
  alike pg h was is before =
      let now : group_history (then_with incs a) pg ≡ Some h = ap (λ (l : List Incremental). group_history l pg) (sym grows) ∙ is in
      let same : h.current ≡ was.current =
      same_Some h.current was.current (sym (history-current (incs_of mid) pg h is) ∙ sym (members-alike (incs_of mid) incs says pg) ∙ history-current incs pg was before) in
      elim (moves incs a pg was h (checked-more incs a checked fine-a) before now) [
        | on code goes ↦ record { first_is = sym goes.first; past_are = ap (ending_from (les (group_with mid pg h))) (sym (past-on log a pg was h goes)) }
        | ends code over ↦ absurd (over.moved same)
      ]

  infos-are : infos_of log ≡ infos_of mid
  infos-are = sym (filter_map-append info_of log (entry.Inc a ∷ []) ∙ append-nil (infos_of log))

  reports-are : reports_of log ≡ reports_of mid
  reports-are = sym (filter_map-append report_of log (entry.Inc a ∷ []) ∙ append-nil (reports_of log))

  comes-over : (pg : PgId) → Comes mid log b a.after pg
  comes-over pg = record {
    says = says;
    checked = legal-checked mid mid-legal;
    checked' = checked;
    fine = fine-b;
    fine' = fine-over;
    infos_are = infos-are;
    reports_are = reports-are;
    alike = alike pg;
  }

  whole-incs : incs_of (mid ++ entry.Inc b ∷ []) ≡ then_with (incs_of mid) b
  whole-incs = incs-inc mid (entry.Inc b) b refl

  other-incs : incs_of (log ++ entry.Inc over_a ∷ []) ≡ then_with incs over_a
  other-incs = incs-inc log (entry.Inc over_a) over_a refl

  fits-over : fits log (entry.Inc over_a) ≡ None
  fits-over =
      let fine : entry_fault log (entry.Inc over_a) ≡ None = ap (option_map refusal_of) fine-over in
      grind (arith, nat_tests, fine, fits-faultless log (entry.Inc a) fit, fits-open_log log (entry.Inc a) fit)

  pub passed-over : AreAlike (mid ++ entry.Inc b ∷ []) (log ++ entry.Inc over_a ∷ [])
  passed-over = record {
    legal = legal-snoc mid (entry.Inc b) mid-legal fit';
    other_legal = legal-snoc log (entry.Inc over_a) legal fits-over;
    closed_is = grind (arith, list_any-append is_close log (entry.Inc over_a ∷ []), list_any-append is_close mid (entry.Inc b ∷ []), list_any-append is_close log (entry.Inc a ∷ []), fits-open_log log (entry.Inc a) fit);
    no_longer = omega (arith, length-append log (entry.Inc over_a ∷ []), length-append mid (entry.Inc b ∷ []), length-append log (entry.Inc a ∷ []));
    agree = record {
      maps_are = subst (λ (l : List Incremental). AreAlikeMaps l (incs_of (log ++ entry.Inc over_a ∷ []))) (sym whole-incs)
          (subst (λ (l : List Incremental). AreAlikeMaps (then_with (incs_of mid) b) l) (sym other-incs) (record {
            epoch_is = epoch-push incs over_a ∙ sym (epoch-push (incs_of mid) b);
            says = next-same (incs_of mid) incs says b a.after (legal-checked mid mid-legal) checked fine-b fine-over;
          }));
      infos_are = filter_map-append info_of log (entry.Inc over_a ∷ []) ∙ append-nil (infos_of log) ∙ infos-are ∙ sym (filter_map-append info_of mid (entry.Inc b ∷ []) ∙ append-nil (infos_of mid));
      reports_are = filter_map-append report_of log (entry.Inc over_a ∷ []) ∙ append-nil (reports_of log) ∙ reports-are ∙ sym (filter_map-append report_of mid (entry.Inc b ∷ []) ∙ append-nil (reports_of mid));
      groups_are = λ pg h h' is is'.
          inc-alike mid log b a.after pg (comes-over pg) h h'
          (ap (λ (l : List Incremental). group_history l pg) (sym whole-incs) ∙ is)
          (ap (λ (l : List Incremental). group_history l pg) (sym other-incs) ∙ is');
    };
  }

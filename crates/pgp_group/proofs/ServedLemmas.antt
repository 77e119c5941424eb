-- That a group which served may have gone read-write in its interval, once that is past, and that whoever serves later has
-- reckoned with it.
use Rattle.pgp_group.proofs.Common.{◌≡◌, ℕ, ◌+◌, ◌-◌, ◌<◌, ◌≤◌, List, [], ◌∷◌, ◌++◌, Some, None, is_some, Bool, true, false, not, nat_le, nat_lt, refl, ap, sym, ◌∙◌, subst, inl, inr, ◌⊎◌, arith, Contains, or_parts, nat_tests, filter_map-append, enough_of, is_by_place, AnyCode, osd_count, Entry, Incremental, Membership, Past, PgId, Verdict, Short, Serve, History, last_place, current_first, ending_at, contains-append, Contains-here, none_is, some_is, some_mapped, taken-along, are_checked, is_faultless, up_from, up_thru, epoch, map_fault, then_with, inc_of, incs_of, group_history, primary_facts, GroupLog, cleans, group_in, incs, IsAfter, past, Remembers, IsStillCurrent, IsRemembered, verdict_holds, verdict_place, verdict, ◌&&◌, ◌||◌, map, or-true, enough_of-mono, Member, Down, Waiting, filter-contains, contains-filter, map-contains, contains-map, none-contains, nat_order, ascending-contains, contains-ascending, acting_where, blocks, has_down, is_settled, matters, settled_slots, member_slots, status, Status, les, heard, has_member, prior, is_lost, acting_of, heard_or_lost, IsAccountedFor, IsReckonedWith, front-checked, last-checked}
use Rattle.pgp_interval.specs.ReadWrite.{acting_slots, may_have_gone_rw}
use Rattle.pgp_map.proofs.CheckedLemmas.{up_thru-more}
use Rattle.pgp_group.proofs.DeviceLemmas.{up_from-stays}
use Rattle.pgp_group.proofs.FirstLemmas.{Ends, Moves, along, moves, past_of}
use Rattle.pgp_group.proofs.GrowthLemmas.{epoch-snoc, has_group-grows, history-last, later_epoch, epochs_ascend}
use Rattle.pgp_group.proofs.LaterLemmas.{histories}
use Rattle.pgp_group.proofs.Lists.{contains-push}
use Rattle.pgp_group.proofs.OpeningLemmas.{IsOpened, opened, primary-up}
use Rattle.pgp_group.proofs.FirstLemmas.Moves.{on, ends}
use Rattle.pgp_group.proofs.ViewLemmas.{history_there}
use Rattle.pgp_ids.specs.SlotSet.{is_within}
use Rattle.pgp_prior.proofs.PriorLemmas.{IsProbed-probe}
use Rattle.pgp_prior.proofs.SlotLemmas.{IsSlotSet-slots_of, is_within-each}
use Rattle.pgp_sets.specs.declared.status.Status.TheVariants as the

-- ---- what a group has that serves

-- a group of this code and membership has all that it takes to serve, led by this device
record IsFit (code : AnyCode) (members : Membership) (osd : ℕ) : Type 0 where
  leads : members.acting_primary ≡ Some osd
  many : nat_le members.min_size (osd_count members.acting) ≡ true
  slots : enough_of code (acting_slots (is_by_place code) members.acting) ≡ true

record IsServing (g : GroupLog) (osd : ℕ) : Type 0 where
  fit : IsFit g.history.code g.history.current osd
  thru : current_first g.history ≤ up_thru (incs g) osd

-- no cause holds for a group that serves
pub no_cause : (g : GroupLog) (cause : Verdict) → verdict g ≡ Serve → verdict_place cause < 7 → verdict_holds g cause ≡ false
no_cause g cause serves before = grind arith

pub not_false : (b : Bool) → not b ≡ false → b ≡ true
not_false b is = grind arith

serving : (g : GroupLog) → verdict g ≡ Serve → (osd : ℕ) × IsServing g osd
serving g serves =
    grind (arith, or_parts (nat_lt (osd_count g.history.current.acting) g.history.current.min_size) _ (no_cause g Short serves (omega arith)), nat_tests)

-- ---- how its interval stands later

-- the interval in which the group served is current, and all that it takes to serve is there
record Runs (g : GroupLog) (osd : ℕ) (incs : List Incremental) (h : History AnyCode) : Type 0 where
  fit : IsFit h.code h.current osd
  first_is : current_first h ≡ current_first g.history
  current_is : h.current ≡ g.history.current
  thru : current_first g.history ≤ up_thru incs osd
  since : up_from incs osd ≤ current_first g.history
  lasts : epoch (incs_of g.log) ≤ epoch incs

-- it is among these past ones, and may have gone read-write
abbrev IsAmong : GroupLog → List Past → Type 0
IsAmong g past = (interval : Past) × Contains past interval × Remembers g interval

abbrev EachRemembers : GroupLog → List Past → Type 0
EachRemembers g past = (interval : Past) → Contains past interval → interval.first ≡ current_first g.history → Remembers g interval

-- it is past, whatever the epochs are in which the group was clean
record IsOver (cleans : List ℕ) (g : GroupLog) (h : History AnyCode) : Type 0 where
  among : IsAmong g (past_of cleans h)
  each : EachRemembers g (past_of cleans h)
  later : current_first g.history < current_first h

abbrev Stands : List ℕ → GroupLog → ℕ → List Incremental → History AnyCode → Type 0
Stands cleans g osd incs h = Runs g osd incs h ⊎ IsOver cleans g h

went_rw : (code : AnyCode) (cleans : List ℕ) (members : Membership) (osd first last : ℕ) (incs : List Incremental) → IsFit code members osd → first ≤ up_thru incs osd → up_from incs osd ≤ first
    → may_have_gone_rw (enough_of code) (is_by_place code) cleans (record { members = members; facts = primary_facts incs members.acting_primary }) first last ≡ true
went_rw code cleans members osd first last incs fit thru since = grind (arith, nat_tests)

stands-ended : (cleans : List ℕ) (g : GroupLog) (osd : ℕ) (incs : List Incremental) (inc : Incremental) (h after : History AnyCode) → epoch incs < inc.epoch → h.first + last_place h ≡ epoch incs → IsOpened incs h
    → Ends inc.epoch (primary_facts incs h.current.acting_primary) h after → Runs g osd incs h → IsOver cleans g after
stands-ended cleans g osd incs inc h after next last opened over runs =
    let ending : Past = ending_at enough_of is_by_place cleans h (inc.epoch - 1) (primary_facts incs h.current.acting_primary) in
    let is : current_first h ≡ current_first g.history = runs.first_is in
    let rw' : ending.rw ≡ true =
    went_rw h.code cleans h.current osd (current_first h) (inc.epoch - 1) incs runs.fit (omega (arith, runs.thru, is)) (omega (arith, runs.since, is)) in
    let remembers : Remembers g ending = record {
      opened = is;
      of_members = runs.current_is;
      lasted = omega (arith, runs.lasts, last, next);
      rw = rw';
    } in
    record {
      among = (
        ending,
        subst (λ (l : List Past). Contains l ending) (sym (over.past cleans)) (contains-append (past_of cleans h) (ending ∷ []) ending (inr (Contains-here ending []))),
        remembers,
      );
      each = λ interval in' same. elim
          (contains-push (past_of cleans h) ending interval (subst (λ (l : List Past). Contains l interval) (over.past cleans) in')) [
            | inl before ↦ absurd (omega (arith, opened.later cleans interval before, is, same))
            | inr here ↦ subst (Remembers g) here remembers
          ];
      later = omega (arith, opened.within, is, over.first, next);
    }

over-ended : (cleans : List ℕ) (g : GroupLog) (incs : List Incremental) (inc : Incremental) (h after : History AnyCode) → epoch incs < inc.epoch → IsOpened incs h
    → Ends inc.epoch (primary_facts incs h.current.acting_primary) h after → IsOver cleans g h → IsOver cleans g after
over-ended cleans g incs inc h after next opened ended over =
    let ending : Past = ending_at enough_of is_by_place cleans h (inc.epoch - 1) (primary_facts incs h.current.acting_primary) in
    record {
      among = (
        over.among.0,
        subst (λ (l : List Past). Contains l over.among.0) (sym (ended.past cleans)) (contains-append (past_of cleans h) (ending ∷ []) over.among.0 (inl over.among.1)),
        over.among.2,
      );
      each = λ interval in' same. elim
          (contains-push (past_of cleans h) ending interval (subst (λ (l : List Past). Contains l interval) (ended.past cleans) in')) [
            | inl before ↦ over.each interval before same
            | inr here ↦ absurd (omega (arith, over.later, ap (λ (p : Past). p.first) here, same))
          ];
      later = omega (arith, over.later, opened.within, ended.first, next);
    }

stands-step : (cleans : List ℕ) (g : GroupLog) (osd : ℕ) (pg : PgId) (incs : List Incremental) (inc : Incremental) (h after : History AnyCode) → are_checked (then_with incs inc) ≡ true
    → group_history incs pg ≡ Some h → group_history (then_with incs inc) pg ≡ Some after → Stands cleans g osd incs h → Stands cleans g osd (then_with incs inc) after
stands-step cleans g osd pg incs inc h after checked is then' stands =
    let fine = last-checked incs inc checked in
    let before = front-checked incs (inc ∷ []) checked in
    let next : epoch incs < inc.epoch = later_epoch incs inc fine in
    let last : h.first + last_place h ≡ epoch incs = history-last incs pg h (epochs_ascend incs before) is in
    by (moves incs inc pg h after checked is then') fine next last (opened pg incs before h is) stands
  where
    by : Moves incs inc h after → map_fault incs inc ≡ None → epoch incs < inc.epoch → h.first + last_place h ≡ epoch incs → IsOpened incs h → Stands cleans g osd incs h → Stands cleans g osd (then_with incs inc) after
    by (on code goes) fine next last open' (inl runs) = inl (record {
      fit = subst (λ (m : Membership). IsFit after.code m osd) (sym goes.current) (subst (λ (c : AnyCode). IsFit c h.current osd) (sym code) runs.fit);
      first_is = goes.first ∙ runs.first_is;
      current_is = goes.current ∙ runs.current_is;
      thru = omega (arith, up_thru-more incs inc osd fine, runs.thru);
      since = omega (arith, up_from-stays incs inc osd fine (primary-up incs pg h osd is runs.fit.leads), runs.since);
      lasts = omega (arith, epoch-snoc incs inc, next, runs.lasts);
    })
    by (on code goes) fine next last open' (inr over) = inr (record {
      among = subst (IsAmong g) (sym (goes.past cleans)) over.among;
      each = subst (EachRemembers g) (sym (goes.past cleans)) over.each;
      later = omega (arith, over.later, goes.first);
    })
    by (ends code ended) fine next last open' (inl runs) = inr (stands-ended cleans g osd incs inc h after next last open' ended runs)
    by (ends code ended) fine next last open' (inr over) = inr (over-ended cleans g incs inc h after next open' ended over)

-- ---- the laws

record IsStanding (g after : GroupLog) : Type 0 where
  osd : ℕ
  stands : Stands (cleans after) g osd (incs after) after.history

standing : (g after : GroupLog) (later : List Entry) → IsAfter g later after → verdict g ≡ Serve → IsStanding g after
standing g after later is serves =
    let s = serving g serves in
    let osd : ℕ = s.0 in
    let hs = histories g later after is in
    let open' : IsOpened (incs g) g.history = opened g.pg (incs g) (front-checked (incs g) (incs_of later) hs.checked) g.history hs.before in
    let runs : Stands (cleans after) g osd (incs g) g.history = inl (record {
      fit = s.1.fit;
      first_is = refl;
      current_is = refl;
      thru = s.1.thru;
      since = open'.since osd s.1.fit.leads;
      lasts = omega arith;
    }) in
    record {
      osd = osd;
      stands = subst (λ (l : List Incremental). Stands (cleans after) g osd l after.history) (sym hs.incs_are)
          (along g.pg (Stands (cleans after) g osd)
          (λ is' inc h next checked before then' kept. stands-step (cleans after) g osd g.pg is' inc h next checked before then' kept)
          (incs_of later) (incs g) g.history after.history hs.checked hs.before hs.then_is runs);
    }

pub remembered : (g after : GroupLog) (later : List Entry) → IsAfter g later after → verdict g ≡ Serve → IsRemembered g after
remembered g after later is serves = elim ((standing g after later is serves).stands) [
  | inl runs ↦ inl (record { first = runs.first_is; members = runs.current_is })
  | inr over ↦ inr over.among
]

-- the intervals of a group later
opened-after : (g after : GroupLog) (later : List Entry) → IsAfter g later after → IsOpened (incs after) after.history
opened-after g after later is =
    let hs = histories g later after is in
    subst (λ (l : List Incremental). IsOpened l after.history) (sym hs.incs_are) (opened g.pg (incs g ++ incs_of later) hs.checked after.history hs.then_is)

pub remembered-each : (g after : GroupLog) (later : List Entry) (interval : Past) → IsAfter g later after → verdict g ≡ Serve → Contains (past after) interval → interval.first ≡ current_first g.history → Remembers g interval
remembered-each g after later interval is serves in' same = elim ((standing g after later is serves).stands) [
  | inl runs ↦ absurd (omega (arith, (opened-after g after later is).later (cleans after) interval in', runs.first_is, same))
  | inr over ↦ over.each interval in' same
]

-- a group that is there stays
pub stays_there : (pg : PgId) (log later : List Entry) → are_checked (incs_of (log ++ later)) ≡ true → is_some (group_in log pg) ≡ true → is_some (group_in (log ++ later) pg) ≡ true
stays_there pg log later checked there =
    let joined : incs_of (log ++ later) ≡ incs_of log ++ incs_of later = filter_map-append inc_of log later in
    let stays : is_some (group_history (incs_of log ++ incs_of later) pg) ≡ true =
    taken-along is_faultless (λ (l : List Incremental). is_some (group_history l pg) ≡ true) step (incs_of log) (incs_of later) (ap are_checked (sym joined) ∙ checked)
    (sym (some_mapped _ (group_history (incs_of log) pg)) ∙ there) in
    some_mapped _ (group_history (incs_of (log ++ later)) pg) ∙ ap (λ (l : List Incremental). is_some (group_history l pg)) joined ∙ stays
  where
    step : (l : List Incremental) (inc : Incremental) → are_checked l ≡ true → is_faultless l inc ≡ true → is_some (group_history l pg) ≡ true → is_some (group_history (then_with l inc) pg) ≡ true
    step l inc checked' fine there' =
        let before = some_is (group_history l pg) there' in
        history_there (then_with l inc) pg ∙ has_group-grows l inc pg before.0 (none_is (map_fault l inc) fine) before.1

settled_is : (s : Status) → is_settled s ≡ true → (s ≡ the.Up) ⊎ (is_lost s ≡ true)
settled_is the.Up is = inl refl
settled_is the.Lost is = inr refl
settled_is the.Gone is = cc
settled_is the.Down is = cc

-- an interval that matters and doesn't block has enough members that are settled, or none that is down
unblocked : (late suffices down : Bool) → late ≡ true → late && not suffices && down ≡ false → (suffices ≡ true) ⊎ (down ≡ false)
unblocked late suffices down matters' free = grind arith

-- whoever is up was heard
heard-up : (g : GroupLog) (interval : Past) (member : Member) → verdict g ≡ Serve → Contains (past g) interval → matters (les g) interval ≡ true → Contains (acting_of g interval) member
    → status (incs g) member.osd interval.first ≡ the.Up → has_member member (heard g) ≡ true
heard-up g interval member serves there matters' acts up =
    let probed : Contains (prior g).probe member = grind (arith, nat_tests, IsProbed-probe) in
    not_false _ (none-contains (λ (m : Member). not (has_member m (heard g))) (prior g).probe member (no_cause g Waiting serves (omega arith)) probed)

settled-counts : (g : GroupLog) (interval : Past) (member : Member) → verdict g ≡ Serve → Contains (past g) interval → matters (les g) interval ≡ true → Contains (acting_of g interval) member
    → is_settled (status (incs g) member.osd interval.first) ≡ true
    → has_member member (heard g) || is_lost (status (incs g) member.osd interval.first) ≡ true
settled-counts g interval member serves there matters' acts settled = grind (arith, nat_tests, settled_is, heard-up, or-true)

-- the slots of members that are settled are among those that were heard or lost
settled-within : (g : GroupLog) (interval : Past) → verdict g ≡ Serve → Contains (past g) interval → matters (les g) interval ≡ true
    → is_within (settled_slots (is_by_place g.history.code) (status (incs g)) interval) (member_slots (heard_or_lost g interval)) ≡ true
settled-within g interval serves there matters' =
    let slot : Member → ℕ = λ member. member.slot in
    let settled : List Member = acting_where is_settled (is_by_place g.history.code) (status (incs g)) interval in
    is_within-each (member_slots settled) (member_slots (heard_or_lost g interval)) (λ k in'.
    let found = map-contains slot settled k (ascending-contains nat_lt (map slot settled) k in') in
    let member : Member = found.0 in
    let kept = filter-contains (λ (m : Member). is_settled (status (incs g) m.osd interval.first)) (acting_of g interval) member found.1.0 in
    let counts : Contains (heard_or_lost g interval) member = grind (arith, nat_tests, contains-filter, settled-counts) in
    contains-ascending nat_lt nat_order (map slot (heard_or_lost g interval)) k
    (subst (Contains (map slot (heard_or_lost g interval))) found.1.1 (contains-map slot (heard_or_lost g interval) member counts)))

-- of a group that serves, in each interval that matters
reckoned-with : (g : GroupLog) (interval : Past) → verdict g ≡ Serve → Contains (past g) interval → matters (les g) interval ≡ true → IsReckonedWith g interval
reckoned-with g interval serves there matters' =
    let settled : List ℕ = settled_slots (is_by_place g.history.code) (status (incs g)) interval in
    let free : blocks (enough_of g.history.code) (is_by_place g.history.code) (status (incs g)) (les g) interval ≡ false =
    none-contains (blocks (enough_of g.history.code) (is_by_place g.history.code) (status (incs g)) (les g)) (past g) interval (no_cause g Down serves (omega arith)) there in
    elim (unblocked (matters (les g) interval) (enough_of g.history.code settled) (has_down (is_by_place g.history.code) (status (incs g)) interval) matters' free) [
      | inl enough ↦ grind (arith, nat_tests, enough_of-mono, IsSlotSet-slots_of, settled-within)
      | inr none ↦ inr none
    ]

pub reckoned : (g after : GroupLog) (later : List Entry) (interval : Past) → IsAfter g later after → verdict g ≡ Serve → Contains (past after) interval → interval.first ≡ current_first g.history
    → verdict after ≡ Serve → les after ≤ interval.last → Remembers g interval × IsReckonedWith after interval
reckoned g after later interval is served there same serves since =
    let remembers : Remembers g interval = remembered-each g after later interval is served there same in
    let late : nat_le (les after) interval.last ≡ true = grind (arith, nat_tests) in
    (remembers, reckoned-with after interval serves there (rw (remembers.rw, late) refl))

-- a past interval that may have gone read-write is reckoned with, or it ended before the group is known to have begun to serve
accounted : (g : GroupLog) (interval : Past) → verdict g ≡ Serve → Contains (past g) interval → interval.rw ≡ true → IsReckonedWith g interval ⊎ (interval.last < les g)
accounted g interval serves there rw' = grind (arith, nat_tests, reckoned-with)

-- whoever serves again has accounted for the interval, where it isn't current still
pub served_again : (g after : GroupLog) (later : List Entry) → IsAfter g later after → verdict g ≡ Serve → verdict after ≡ Serve → IsStillCurrent g after ⊎ IsAccountedFor g after
served_again g after later is served serves = elim (remembered g after later is served) [
  | inl still ↦ inl still
  | inr one ↦ inr (record { interval = one.0; there = one.1; remembers = one.2; how = accounted after one.0 serves one.1 one.2.rw })
]

-- what the laws say
pub ruleset served_laws = (remembered, stays_there)

pub ruleset reckoned_laws = (reckoned, served_again)

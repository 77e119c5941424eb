-- What makes no group down: boots and losses, and reports that raise no flag.
use Rattle.pgp_group.proofs.Common.{◌≡◌, ℕ, ◌≤◌, List, [], ◌∷◌, Some, None, Bool, true, false, not, ◌&&◌, ◌||◌, nat_eq, nat_le, fold, map, max, refl, ap, sym, ◌∙◌, inl, inr, arith, list_any, cases_Bool, false_from_ne_true, true≢false, nat_tests, same_Some, list_any-append, enough_of, enough_of-mono, is_by_place, AnyCode, Entry, Incremental, Past, Info, any-contains, contains-any, boots, destroys, exists, is_up, takes_down, map_fault, then_with, is_no_worse, blocks, has_down, is_group_down, no_worse-relieves, not_down-relieved, status, status_by, inc_of, incs_of, group_history, GroupLog, cleans, incs, les, IsAfter, past, prior, TakesNothingAway, last-checked}
use Rattle.pgp_ids.specs.declared.entry.Entry.TheVariants as entry
use Rattle.pgp_group.proofs.DeviceLemmas.{lost_at-rises, not_booted}
use Rattle.pgp_group.proofs.LaterLemmas.{histories, same-infos, les-rises}
use Rattle.pgp_group.proofs.Lists.{last_where-none, last_where-passes, nothing_new}
use Rattle.pgp_group.proofs.NotedLemmas.{to_up}
use Rattle.pgp_group.proofs.FirstLemmas.{moves, past_of}
use Rattle.pgp_group.proofs.FirstLemmas.Moves.{on, ends}
use Rattle.pgp_group.proofs.OpeningLemmas.{acting-up}

-- ---- statuses

-- the incremental tells nothing of a device that it doesn't boot
silent-of : (incs : List Incremental) (inc : Incremental) (osd : ℕ) → TakesNothingAway incs inc → boots osd inc ≡ false → boots osd inc || takes_down osd inc || destroys osd inc ≡ false
silent-of incs inc osd nothing still = rw (still, ap (list_any (nat_eq osd)) nothing.down, ap (list_any (nat_eq osd)) nothing.gone) refl

pub up-still : (incs : List Incremental) (inc : Incremental) (osd : ℕ) → TakesNothingAway incs inc → boots osd inc ≡ false → is_up (then_with incs inc) osd ≡ is_up incs osd
up-still incs inc osd nothing still = grind (arith, nat_tests, silent-of, last_where-none)

pub exists-still : (incs : List Incremental) (inc : Incremental) (osd : ℕ) → TakesNothingAway incs inc → boots osd inc ≡ false → exists (then_with incs inc) osd ≡ exists incs osd
exists-still incs inc osd nothing still = grind (arith, nat_tests, last_where-none)

pub up-booted : (incs : List Incremental) (inc : Incremental) (osd : ℕ) → boots osd inc ≡ true → is_up (then_with incs inc) osd ≡ true
up-booted incs inc osd booting = grind (arith, nat_tests, last_where-passes)

-- a later loss makes no status worse
lost-no_worse : (up there : Bool) (old new first : ℕ) → old ≤ new → is_no_worse (status_by up there old first) (status_by up there new first) ≡ true
lost-no_worse up there old new first rises = grind (arith, nat_tests)

no_worse : (incs : List Incremental) (inc : Incremental) (osd first : ℕ) → TakesNothingAway incs inc → is_no_worse (status incs osd first) (status (then_with incs inc) osd first) ≡ true
no_worse incs inc osd first nothing = elim (cases_Bool (boots osd inc)) [
  | inl booting ↦ grind (arith, up-booted incs inc osd booting, to_up (status incs osd first))
  | inr still ↦ search (up-still, exists-still, lost-no_worse, lost_at-rises)
]

-- ---- the interval that the incremental ends

-- none of its members is down: they were up, and still are
ending-up : (g : GroupLog) (inc : Incremental) (ending : Past) → map_fault (incs g) inc ≡ None → group_history (incs g) g.pg ≡ Some g.history → TakesNothingAway (incs g) inc → ending.members ≡ g.history.current
    → has_down (is_by_place g.history.code) (status (then_with (incs g) inc)) ending ≡ false
ending-up g inc ending fine is nothing same = grind (arith, nat_tests, false_from_ne_true, any-contains, acting-up, up-still, not_booted, true≢false)

-- an interval with no member that is down doesn't block
free-ending : (late suffices down : Bool) → down ≡ false → late && not suffices && down ≡ false
free-ending late suffices down none = grind arith

-- ---- the laws

-- whether a group is down, by what is known of it
abbrev pub down_by : AnyCode → List Incremental → ℕ → List Past → Bool
down_by code incs les past = is_group_down (enough_of code) (is_by_place code) (status incs) les past

relieved : (g : GroupLog) (inc : Incremental) → TakesNothingAway (incs g) inc → (prior g).down ≡ false → down_by g.history.code (then_with (incs g) inc) (les g) (past g) ≡ false
relieved g inc nothing up = grind (arith, nat_tests, not_down-relieved, enough_of-mono, no_worse-relieves, no_worse)

-- one more that doesn't block changes nothing
none-more : (some last : Bool) → last ≡ false → (some || last) ≡ some
none-more some last none = grind arith

-- After such an incremental a group is down just where the past intervals of before block it, by what has become of their devices.
pub down-after : (g after : GroupLog) (inc : Incremental) → IsAfter g (entry.Inc inc ∷ []) after → TakesNothingAway (incs g) inc → (prior after).down ≡ down_by g.history.code (incs after) (les g) (past g)
down-after g after inc is nothing =
    let hs = histories g (entry.Inc inc ∷ []) after is in
    let fine = last-checked (incs g) inc hs.checked in
    let since : les after ≡ les g = ap (λ (told : List Info). fold max 0 (map (λ info. info.history_les) told)) (same-infos g after inc is) in
    let clean : past after ≡ past_of (cleans g) after.history = grind (arith, nat_tests, same-infos g after inc is) in
    let all : (code : AnyCode) → code ≡ g.history.code → (intervals : List Past) → down_by code (incs after) (les after) intervals ≡ down_by g.history.code (incs after) (les g) intervals = grind (arith, nat_tests) in
    elim (moves (incs g) inc g.pg g.history after.history hs.checked hs.before hs.then_is) [
      | on code goes ↦ all after.history.code code (past after) ∙ ap (down_by g.history.code (incs after) (les g)) (clean ∙ goes.past (cleans g))
      | ends code over ↦ grind (arith, nat_tests, ending-up, free-ending, list_any-append, none-more)
    ]

pub relief : (g after : GroupLog) (inc : Incremental) → IsAfter g (entry.Inc inc ∷ []) after → TakesNothingAway (incs g) inc → (prior g).down ≡ false → (prior after).down ≡ false
relief g after inc is nothing up = grind (arith, histories g (entry.Inc inc ∷ []) after is, down-after g after inc is nothing, relieved g inc nothing up)

-- an interval that blocks a group which last began to serve later blocked it before
blocks-before : (suffices down rw' : Bool) (since later last : ℕ) → since ≤ later → (rw' && nat_le later last) && not suffices && down ≡ true → (rw' && nat_le since last) && not suffices && down ≡ true
blocks-before suffices down rw' since later last rises blocking = grind (arith, nat_tests)

pub reports_relief : (g after : GroupLog) (new : Entry) → IsAfter g (new ∷ []) after → inc_of new ≡ None → past after ≡ past g → (prior g).down ≡ false → (prior after).down ≡ false
reports_relief g after new is none same up =
    let hs = histories g (new ∷ []) after is in
    let told : incs after ≡ incs g = ap incs_of hs.log ∙ nothing_new inc_of g.log new none in
    let stays : after.history ≡ g.history = grind (arith, nat_tests, same_Some) in
    let rises : les g ≤ les after = les-rises g.log (new ∷ []) g.pg g after is.before is.then_is in
    false_from_ne_true _ (λ down.
    let was : down_by g.history.code (incs g) (les after) (past g) ≡ true = sym (λ i. down_by (stays i).code (told i) (les after) (same i)) ∙ down in
    let found = any-contains (blocks (enough_of g.history.code) (is_by_place g.history.code) (status (incs g)) (les after)) (past g) was in
    let blocking : blocks (enough_of g.history.code) (is_by_place g.history.code) (status (incs g)) (les g) found.0 ≡ true = grind (arith, nat_tests, blocks-before) in
    true≢false (sym (contains-any (blocks (enough_of g.history.code) (is_by_place g.history.code) (status (incs g)) (les g)) (past g) found.0 found.1.0 blocking) ∙ up))

-- what the laws say
pub ruleset relief_laws = (relief, down-after, reports_relief)

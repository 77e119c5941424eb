-- What is so of each interval since it opened.
use Rattle.pgp_group.proofs.Common.{◌≡◌, ℕ, zero, suc, ◌<◌, ◌≤◌, List, [], ◌∷◌, Option, Some, None, true, false, length, ap, sym, ◌∙◌, subst, inl, inr, arith, if◌then◌else◌, Contains, range_with_len, slice_index_or, option_map_or, and_parts, cases_Bool, true≢false, is_by_place, AnyCode, first_osd, Incremental, Member, Membership, Past, PgId, History, current_first, Contains-nil, map_some, some_is, taken-induction, taken-more, are_checked, is_faultless, is_up, up_from, epoch, then_with, pool, has_group, held_member, members_of, are_up, membership, pool_membership, group_history, nat_tests, last-checked}
use Rattle.pgp_sets.proofs.UpLemmas.{acting-are_up}
use Rattle.pgp_group.proofs.DeviceLemmas.{up_from-stays, up_from-within}
use Rattle.pgp_group.proofs.FirstLemmas.{moves, past_of}
use Rattle.pgp_group.proofs.FirstLemmas.Moves.{on, ends}
use Rattle.pgp_group.proofs.GrowthLemmas.{epoch-snoc, has_group-unmade, history-begins-made, later_epoch}
use Rattle.pgp_group.proofs.HistoryLemmas.{history-current}
use Rattle.pgp_group.proofs.Lists.{filter_map-from, contains-push}
use Rattle.pgp_group.proofs.ViewLemmas.{history_there}

-- ---- since it opened

-- the acting primary of the current interval is up since the interval opened or longer, which is after each past one opened
-- and not after the last epoch
pub record IsOpened (incs : List Incremental) (h : History AnyCode) : Type 0 where
  pub since : (osd : ℕ) → h.current.acting_primary ≡ Some osd → up_from incs osd ≤ current_first h
  pub later : (cleans : List ℕ) (interval : Past) → Contains (past_of cleans h) interval → interval.first < current_first h
  pub within : current_first h ≤ epoch incs

-- ---- who serves is up

up-at : (incs : List Incremental) (places : List (Option ℕ)) (place osd : ℕ) → are_up incs places ≡ true → slice_index_or places place None ≡ Some osd → is_up incs osd ≡ true
up-at incs [] place osd all is = cc
up-at incs (first ∷ places) zero osd all is = grind (arith, and_parts (option_map_or (is_up incs) first true) (are_up incs places) all)
up-at incs (first ∷ places) (suc place) osd all is =
    cc (up-at incs places place osd (and_parts (option_map_or (is_up incs) first true) (are_up incs places) all).1 is)

up-first : (incs : List Incremental) (places : List (Option ℕ)) (osd : ℕ) → are_up incs places ≡ true → first_osd places ≡ Some osd → is_up incs osd ≡ true
up-first incs [] osd all is = cc
up-first incs (Some first ∷ places) osd all is = grind (arith, and_parts (is_up incs first) (are_up incs places) all)
up-first incs (None ∷ places) osd all is = up-first incs places osd all is

-- the membership of a pool is led by the first of acting
led-by : (incs : List Incremental) (pg : PgId) (members : Membership) → membership incs pg ≡ Some members → members.acting_primary ≡ first_osd members.acting
led-by incs pg members is = grind (arith, map_some (pool_membership incs pg) (pool incs pg.pool) members is)

pub primary-up : (incs : List Incremental) (pg : PgId) (h : History AnyCode) (osd : ℕ) → group_history incs pg ≡ Some h → h.current.acting_primary ≡ Some osd → is_up incs osd ≡ true
primary-up incs pg h osd is leads =
    let there : membership incs pg ≡ Some h.current = history-current incs pg h is in
    up-first incs h.current.acting osd (acting-are_up incs pg h.current there) (sym (led-by incs pg h.current there) ∙ leads)

pub acting-up : (incs : List Incremental) (pg : PgId) (h : History AnyCode) (member : Member) → group_history incs pg ≡ Some h → Contains (members_of (is_by_place h.code) h.current.acting) member → is_up incs member.osd ≡ true
acting-up incs pg h member is acts =
    let all = acting-are_up incs pg h.current (history-current incs pg h is) in
    let from = filter_map-from (held_member (is_by_place h.code) h.current.acting) (range_with_len 0 (length h.current.acting)) member acts in
    let held = map_some (λ (osd : ℕ). record { osd = osd; slot = if is_by_place h.code then from.0 else 0 }) (slice_index_or h.current.acting from.0 None) member from.2 in
    up-at incs h.current.acting from.0 member.osd all (held.1 ∙ ap (λ (m : Member). Some m.osd) held.2)

-- ---- each interval was opened so

opened-begun : (incs : List Incremental) (inc : Incremental) (pg : PgId) (after : History AnyCode) → are_checked (then_with incs inc) ≡ true → has_group incs pg ≡ false
    → group_history (then_with incs inc) pg ≡ Some after → IsOpened (then_with incs inc) after
opened-begun incs inc pg after checked absent is =
    grind (arith, nat_tests, last-checked, history_there, true≢false, has_group-unmade, history-begins-made, map_some, up_from-within, epoch-snoc, Contains-nil)

opened-next : (incs : List Incremental) (inc : Incremental) (pg : PgId) (h after : History AnyCode) → are_checked (then_with incs inc) ≡ true
    → group_history incs pg ≡ Some h → group_history (then_with incs inc) pg ≡ Some after → IsOpened incs h → IsOpened (then_with incs inc) after
opened-next incs inc pg h after checked is then' opened =
    let fine = last-checked incs inc checked in
    let within : current_first h ≤ epoch incs = opened.within in
    let next : epoch incs < epoch (then_with incs inc) = omega (arith, epoch-snoc incs inc, later_epoch incs inc fine) in
    elim (moves incs inc pg h after checked is then') [
      | on code goes ↦ record {
        since = λ osd leads.
            let led : h.current.acting_primary ≡ Some osd = ap (λ (m : Membership). m.acting_primary) (sym goes.current) ∙ leads in
            omega (arith, up_from-stays incs inc osd fine (primary-up incs pg h osd is led), opened.since osd led, goes.first);
        later = λ cleans interval in'.
            omega (arith, opened.later cleans interval (subst (λ (l : List Past). Contains l interval) (goes.past cleans) in'), goes.first);
        within = omega (arith, goes.first, within, next);
      }
      | ends code over ↦ record {
        since = λ osd leads. omega (arith, up_from-within osd (then_with incs inc) checked, epoch-snoc incs inc, over.first);
        later = λ cleans interval in'.
            elim (contains-push (past_of cleans h) _ interval (subst (λ (l : List Past). Contains l interval) (over.past cleans) in')) [
              | inl before ↦ omega (arith, opened.later cleans interval before, within, over.first, later_epoch incs inc fine)
              | inr here ↦ grind (arith, nat_tests, later_epoch)
            ];
        within = omega (arith, over.first, epoch-snoc incs inc);
      }
    ]

pub opened : (pg : PgId) (incs : List Incremental) → are_checked incs ≡ true → (h : History AnyCode) → group_history incs pg ≡ Some h → IsOpened incs h
opened pg =
    taken-induction is_faultless (λ (incs : List Incremental). (h : History AnyCode) → group_history incs pg ≡ Some h → IsOpened incs h)
    (λ h is. cc)
    (λ incs inc checked fine so_far after then'. step incs inc after (taken-more is_faultless incs inc checked fine) so_far then')
  where
    step : (incs : List Incremental) (inc : Incremental) (after : History AnyCode) → are_checked (then_with incs inc) ≡ true → ((h : History AnyCode) → group_history incs pg ≡ Some h → IsOpened incs h)
        → group_history (then_with incs inc) pg ≡ Some after → IsOpened (then_with incs inc) after
    step incs inc after checked so_far then' = elim (cases_Bool (has_group incs pg)) [
      | inl there ↦
          let before = some_is (group_history incs pg) (history_there incs pg ∙ there) in
          opened-next incs inc pg before.0 after checked before.1 then' (so_far before.0 before.1)
      | inr absent ↦ opened-begun incs inc pg after checked absent then'
    ]

-- What one entry more does to a log.
use Rattle.pgp_log.proofs.Common.{◌≡◌, ◌<◌, ◌≤◌, eq-eqb, inl, inr, length-append, append-nil, List, [], ◌∷◌, ◌++◌, Bool, true, false, Option, Some, None, IfSome, length, nat_le, if◌then◌else◌, refl, sym, ap, ◌∙◌, arith, option_map, option_or, cases_Bool, leb_tells, nat_tests, filter_map-append, or-false, if_none, Entry, Incremental, Refusal, checked-more, are_checked, refusal_of, epoch, map_fault, given_fault, MapFault, is_same_group, PgId, epoch-snoc, inc_of, incs_of, is_close, is_closed, entry_fault, full_fault, fits, epoch_of}
use Rattle.pgp_ids.specs.declared.entry.Entry.TheVariants as entry
use Rattle.pgp_ids.specs.declared.refusal.Refusal.TheVariants as refusal
use Rattle.pgp_map.proofs.FaultLemmas.{no_fault}

-- ---- its incrementals

pub incs-inc : (log : List Entry) (new : Entry) (inc : Incremental) → inc_of new ≡ Some inc → incs_of (log ++ new ∷ []) ≡ incs_of log ++ inc ∷ []
incs-inc log new inc some = filter_map-append inc_of log (new ∷ []) ∙ rw some refl

pub incs-other : (log : List Entry) (new : Entry) → inc_of new ≡ None → incs_of (log ++ new ∷ []) ≡ incs_of log
incs-other log new none = filter_map-append inc_of log (new ∷ []) ∙ rw none (append-nil (incs_of log))

pub epoch-inc : (log : List Entry) (new : Entry) (inc : Incremental) → inc_of new ≡ Some inc → epoch_of (log ++ new ∷ []) ≡ inc.epoch
epoch-inc log new inc some = ap epoch (incs-inc log new inc some) ∙ epoch-snoc (incs_of log) inc

pub epoch-other : (log : List Entry) (new : Entry) → inc_of new ≡ None → epoch_of (log ++ new ∷ []) ≡ epoch_of log
epoch-other log new none = ap epoch (incs-other log new none)

-- ---- what fits

none_left : (a b : Option Refusal) → option_or a b ≡ None → a ≡ None
none_left a b none = grind arith

none_right : (a b : Option Refusal) → option_or a b ≡ None → b ≡ None
none_right a b none = grind arith

pub fits-open_log : (log : List Entry) (new : Entry) → fits log new ≡ None → is_closed log ≡ false
fits-open_log log new fit = (if_none (is_closed log) refusal.Closed _ fit).0

open_fits : (log : List Entry) (new : Entry) → fits log new ≡ None → option_or (entry_fault log new) (full_fault log new) ≡ None
open_fits log new fit = (if_none (is_closed log) refusal.Closed _ fit).1

pub fits-faultless : (log : List Entry) (new : Entry) → fits log new ≡ None → entry_fault log new ≡ None
fits-faultless log new fit = none_left (entry_fault log new) (full_fault log new) (open_fits log new fit)

no_map_fault : (fault : Option MapFault) → option_map refusal_of fault ≡ None → fault ≡ None
no_map_fault fault none = grind arith

pub faultless-inc : (log : List Entry) (new : Entry) (inc : Incremental) → inc_of new ≡ Some inc → entry_fault log new ≡ None → map_fault (incs_of log) inc ≡ None
faultless-inc log (entry.Inc other) inc some none =
    let same : other ≡ inc = cc in
    no_map_fault (map_fault (incs_of log) inc) (ap (λ inc. option_map refusal_of (map_fault (incs_of log) inc)) (sym same) ∙ none)
faultless-inc log new inc some none = cc

-- ---- a log that takes an entry

pub closed-push : (log : List Entry) (new : Entry) → is_closed log ≡ false → is_closed (log ++ new ∷ []) ≡ is_close new
closed-push [] new opened = or-false (is_close new)
closed-push (entry.Close ∷ log) new opened = cc
closed-push (other ∷ log) new opened = closed-push log new opened

not_full : (log : List Entry) (new : Entry) → full_fault log new ≡ None → is_close new ≡ false → nat_le 65535 (length log) ≡ false
not_full log new none other = at (is_close new) (nat_le 65535 (length log)) other none where
  at : (close full : Bool) → close ≡ false → (if close then None else (if full then Some refusal.LogFull else None)) ≡ None → full ≡ false
  at close full other none = grind (arith, nat_tests, cases_Bool full)

pub room-push : (log : List Entry) (new : Entry) → fits log new ≡ None → is_close new ≡ false → length (log ++ new ∷ []) ≤ 65535
room-push log new fit other =
    let few = not_full log new (none_right (entry_fault log new) (full_fault log new) (open_fits log new fit)) other in
    let long = length-append log (new ∷ []) in
    elim (leb_tells 65535 (length log)) [ inl full ↦ let is : nat_le 65535 (length log) ≡ true = full.0 in cc | inr less ↦ let other : length log < 65535 = omega (arith, less.1) in omega (arith, long, other) ]

-- its incrementals were checked one by one
pub checked-push : (log : List Entry) (new : Entry) → are_checked (incs_of log) ≡ true → entry_fault log new ≡ None
    → are_checked (incs_of (log ++ new ∷ [])) ≡ true
checked-push log (entry.Inc inc) checked none =
    ap are_checked (incs-inc log (entry.Inc inc) inc refl) ∙ checked-more (incs_of log) inc checked (faultless-inc log (entry.Inc inc) inc refl none)
checked-push log new checked none = ap are_checked (incs-other log new refl) ∙ checked

-- the tree that the entry gives, if it is an incremental that gives one, has no fault
pub faultless-tree : (log : List Entry) (new : Entry) → entry_fault log new ≡ None → IfSome (inc_of new) (λ inc. given_fault inc.crush ≡ None)
faultless-tree log (entry.Inc inc) none = (no_fault (incs_of log) inc (faultless-inc log (entry.Inc inc) inc refl none)).tree
faultless-tree log new none = tt

-- a group is the same as itself
pub same-self : (pg : PgId) → is_same_group pg pg ≡ true
same-self pg = rw (eq-eqb pg.pool pg.pool refl, eq-eqb pg.pg pg.pg refl) refl

-- In which order an entry is refused.
use Rattle.pgp_log.proofs.Common.{◌≡◌, ◌<◌, ◌≤◌, List, Option, Some, None, Bool, true, false, length, nat_le, nat_lt, refl, subst, arith, if◌then◌else◌, option_or, cases_Bool, nat_tests, Entry, PgId, Info, epoch, incs_of, TellsNothingAhead, Refusal, fits, entry_fault, full_fault, is_close, is_closed, has_bad_info, has_future_stamp, has_unknown_group, has_unknown_member, info_fault}
use Rattle.pgp_ids.specs.declared.entry.Entry.TheVariants as entry
use Rattle.pgp_ids.specs.declared.refusal.Refusal.TheVariants as refusal

pub fits-closed : (log : List Entry) (new : Entry) → is_closed log ≡ true → fits log new ≡ Some refusal.Closed
fits-closed log new closed = rw closed refl

pub fits-own : (log : List Entry) (new : Entry) (why : Refusal) → is_closed log ≡ false → entry_fault log new ≡ Some why → fits log new ≡ Some why
fits-own log new why open' own = rw (open', own) refl

pub fits-full : (log : List Entry) (new : Entry) → is_closed log ≡ false → entry_fault log new ≡ None → is_close new ≡ false → 65535 ≤ length log → fits log new ≡ Some refusal.LogFull
fits-full log new open' own other full =
    let tested : nat_le 65535 (length log) ≡ true = grind (arith, nat_tests) in
    rw (open', own, other, tested) refl

room_for : (b : Bool) (log : List Entry) → length log < 65535 → (if b then None else (if nat_le 65535 (length log) then Some refusal.LogFull else None)) ≡ None
room_for b log room = grind (arith, nat_tests, cases_Bool b)

pub fits-room : (log : List Entry) (new : Entry) → is_closed log ≡ false → entry_fault log new ≡ None → length log < 65535 → fits log new ≡ None
fits-room log new open' own room = rw (open', own) (room_for (is_close new) log room)

pub fits-close : (log : List Entry) → is_closed log ≡ false → fits log entry.Close ≡ None
fits-close log open' = rw open' refl

-- ---- an info that the log takes

-- a report that isn't refused has neither a stamp that is still to come nor a bad version
unrefused : (group member future bad : Bool) → (if group then Some refusal.UnknownGroup else (if member then Some refusal.UnknownMember else (if future then Some refusal.FutureStamp else (if bad then Some refusal.BadVersion else None)))) ≡ None
    → (future ≡ false) × (bad ≡ false)
unrefused group member future bad fine = grind (arith, nat_tests, cases_Bool group, cases_Bool member, cases_Bool future, cases_Bool bad)

own-fine : (closed : Bool) (own full : Option Refusal) → (if closed then Some refusal.Closed else option_or own full) ≡ None → own ≡ None
own-fine closed own full fine = grind (arith, nat_tests, cases_Bool closed)

-- it says nothing of an epoch that is still to come
pub nothing_ahead : (log : List Entry) (pg : PgId) (new : Entry) → fits log new ≡ None → TellsNothingAhead log pg new
nothing_ahead log pg (entry.Info sent) fine info is here =
    let own : info_fault (incs_of log) sent ≡ None = own-fine (is_closed log) (info_fault (incs_of log) sent) (full_fault log (entry.Info sent)) fine in
    let parts = unrefused (has_unknown_group (incs_of log) sent.pg) (has_unknown_member (incs_of log) sent.pg sent.member) (has_future_stamp (incs_of log) sent.stamp) (has_bad_info sent) own in
    let come : nat_lt (epoch (incs_of log)) sent.stamp ≡ false = parts.0 in
    let good : has_bad_info sent ≡ false = parts.1 in
    let known : nat_lt sent.stamp sent.last_epoch_clean ≡ false = grind arith in
    let same : sent ≡ info = cc in
    subst (λ (i : Info). i.last_epoch_clean ≤ epoch (incs_of log)) same (grind (arith, nat_tests))
nothing_ahead log pg new fine info is here = cc

-- A judge that has taken a front of the log, and what became of the log.
use Rattle.std.proofs.Common.{◌≡◌, ℕ, ◌<◌, ◌≤◌, List, [], ◌∷◌, ◌++◌, length, None, Result, Ok, Err, OnOk, OnErr, refl, ap, ap₂, sym, ◌∙◌, subst, arith, length-append}
use Rattle.pgp_ids.specs.declared.entry.Entry.{Entry}
use Rattle.pgp_log.specs.declared.judge.Judge.{Judge}
use Rattle.pgp_log.specs.Fits.{fits}
use Rattle.pgp_log.specs.Judge.{IsJudgeOf, OfItsLog}
use Rattle.pgp_feed.specs.declared.receipt.Receipt.{Receipt}
use Rattle.pgp_feed.specs.Receipts.{entries_of}
use Rattle.pgp_feed.proofs.Fronts.{front_self}
use Rattle.pgp_engine.specs.kept.Members.{Follows}

pub follows_log : (log : List Entry) (judge : Judge) → IsJudgeOf log judge → Follows log judge
follows_log log judge is = record { taken = log; is_front = front_self log; is = is }

-- whether it found memory for the entry or not
pub took_or_not : {T E : Type 0} (r : Result T E) (log : List Entry) (new : Entry) (before after : Judge) → IsJudgeOf log before → fits log new ≡ None
    → OnOk r (OfItsLog before (λ l. fits l new ≡ None → IsJudgeOf (l ++ new ∷ []) after)) → OnErr r (OfItsLog before (λ l. IsJudgeOf l after))
    → Follows (log ++ new ∷ []) after
took_or_not (Ok x) log new before after is fit ok err = follows_log (log ++ new ∷ []) after (ok log is fit)
took_or_not (Err x) log new before after is fit ok err =
    record { taken = log; is_front = record { rest = new ∷ []; whole = refl }; is = err log is }

-- a judge that has taken less than there is counts less
pub judged_less : (log : List Entry) (judge : Judge) → Follows log judge → ((taken : List Entry) → IsJudgeOf taken judge → length taken < length log)
    → judge.count < length log
judged_less log judge here less = subst (λ (n : ℕ). n < length log) (sym here.is.count_is) (less here.taken here.is)

-- it counts no less, whether it found memory for the entry or not
pub counts_no_less : {T E : Type 0} (r : Result T E) (log : List Entry) (new : Entry) (before after : Judge) → IsJudgeOf log before → fits log new ≡ None
    → OnOk r (OfItsLog before (λ l. fits l new ≡ None → IsJudgeOf (l ++ new ∷ []) after)) → OnErr r (OfItsLog before (λ l. IsJudgeOf l after))
    → before.count ≤ after.count
counts_no_less (Ok x) log new before after is fit ok err =
    omega (arith, is.count_is, (ok log is fit).count_is, length-append log (new ∷ []))
counts_no_less (Err x) log new before after is fit ok err = omega (arith, is.count_is, (err log is).count_is)

-- what the log is after a publish that succeeded
pub published : (told old new : Receipt) (log : List Entry) (entry given : Entry) → entries_of old ≡ log → entry ≡ given
    → (told ≡ new) × (entries_of told ≡ entries_of old ++ entry ∷ []) → entries_of new ≡ log ++ given ∷ []
published told old new log entry given is same p =
    ap entries_of (sym p.0) ∙ (p.1 ∙ ap₂ (λ (l : List Entry) (x : Entry). l ++ x ∷ []) is same)

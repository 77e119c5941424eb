-- A compacted log is legal, and takes what the log takes.
use Rattle.pgp_compact.proofs.Common.{AnyCode, Bool, Contains-nil, Entry, History, Incremental, List, Member, None, Option, PgId, Some, [], ap, append-nil, append_assoc, are_checked, arith, cases_Bool, compacted, contains-push, entry_fault, epoch, epoch-inc, epoch-other, false, faultless-inc, filter_map-append, fits, fits-faultless, front-checked, front-legal, group_history, group_in, group_with, has_group-grows, history_there, inc_of, incs-other, incs_of, inl, inr, is_close, is_closed, is_legal, is_needed, last-checked, legal-induction, legal-last, legal-snoc, length, length-append, list_any-append, nat_tests, needed_of, later_epoch, nothing_ahead, option_map, refl, report_fault, same-self, same_Some, some_is, sym, then_with, true, true≢false, ℕ, ◌++◌, ◌<◌, ◌∙◌, ◌∷◌, ◌≡◌, ◌≢◌, ◌≤◌}
use Rattle.pgp_compact.proofs.GoneOnLemmas.{IsSent}
use Rattle.pgp_compact.proofs.NeededLemmas.{needed-any, needed-each, needed-length}
use Rattle.pgp_compact.proofs.PartLemmas.{incs-gone_on}
use Rattle.pgp_log.specs.Fits.{longest_log}
use Rattle.pgp_ids.specs.declared.refusal.Refusal.TheVariants as refusal
use Rattle.pgp_ids.specs.declared.entry.Entry.TheVariants as entry

-- the second log has the same incrementals and end, and no more entries
pub record IsShorter (log less : List Entry) : Type 0 where
  pub incs : incs_of less ≡ incs_of log
  pub closed : is_closed less ≡ is_closed log
  pub short : length less ≤ length log

pub fault-same : (log less : List Entry) (new : Entry) → incs_of less ≡ incs_of log → entry_fault less new ≡ entry_fault log new
fault-same log less (entry.Inc inc) same = rw same refl
fault-same log less new same = grind arith

pub fits-less : (log less : List Entry) → IsShorter log less → (new : Entry) → fits log new ≢ Some refusal.LogFull → fits less new ≡ fits log new
fits-less log less is new open' = grind (arith, nat_tests, fault-same log less new)

-- there is room for one with which nothing is wrong
pub fits-short : (less : List Entry) (new : Entry) → is_closed less ≡ false → entry_fault less new ≡ None → length less < longest_log → fits less new ≡ None
fits-short less new open' fine short = grind (arith, nat_tests, cases_Bool (is_close new))

shorter-both : (log less : List Entry) → IsShorter log less → (new : Entry) → IsShorter (log ++ new ∷ []) (less ++ new ∷ [])
shorter-both log less is new = grind (arith, filter_map-append, list_any-append, length-append)

shorter-one : (log less : List Entry) → IsShorter log less → (new : Entry) → inc_of new ≡ None → is_close new ≡ false → IsShorter (log ++ new ∷ []) less
shorter-one log less is new none open' = grind (arith, nat_tests, incs-other, list_any-append, length-append)

-- a legal log stays so without the entries that aren't needed, if none of these is an incremental or a Close
legal-needed : (needs : List Entry → Entry → Bool)
    → ((later : List Entry) (x : Entry) → needs later x ≡ false → (inc_of x ≡ None) × (is_close x ≡ false))
    → (rest log less : List Entry) → IsShorter log less → is_legal less ≡ true → is_legal (log ++ rest) ≡ true
    → is_legal (less ++ needed_of needs rest) ≡ true
legal-needed needs leaves [] log less is fine legal = ap is_legal (append-nil less) ∙ fine
legal-needed needs leaves (x ∷ rest) log less is fine legal =
    let more = legal-needed needs leaves rest (log ++ x ∷ []) in
    let fit = fits-less log less is x in
    let front = front-legal (log ++ x ∷ []) rest in
    let one = shorter-one log less is x in
    grind (arith, cases_Bool (needs rest x), leaves rest x, append_assoc, legal-last, front, fit, legal-snoc, shorter-both, one, more)

-- whatever follows, legal or not, the compacted log has the same incrementals and end, and no more entries
pub gone_on-shorter : (log more : List Entry) → IsShorter (log ++ more) (compacted log ++ more)
gone_on-shorter log more =
    let closed = needed-any (λ (x : Entry). Unit {0}) (is_needed log) is_close (λ later x any all is none. grind arith) log more (λ x there. tt) in
    grind (arith, incs-gone_on, closed, needed-length (is_needed log) log, length-append)

pub compacted-shorter : (log : List Entry) → IsShorter log (compacted log)
compacted-shorter log = simp append-nil at (gone_on-shorter log [])

pub compacted-legal : (log : List Entry) → is_legal log ≡ true → (is_legal (compacted log) ≡ true) × IsShorter log (compacted log)
compacted-legal log legal =
    (legal-needed (is_needed log) (λ later x other. grind arith) log [] [] (grind arith) refl legal, compacted-shorter log)

pub gone_on-legal : (log more : List Entry) → is_legal (log ++ more) ≡ true → is_legal (compacted log ++ more) ≡ true
gone_on-legal log more legal =
    let c = compacted-legal log (front-legal log more legal) in
    ap (λ (l : List Entry). is_legal (compacted log ++ l)) (sym (needed-each (λ later x. true) (λ later x. refl) more))
    ∙ legal-needed (λ later x. true) (λ later x never. absurd (true≢false never)) more log (compacted log) c.1 c.0 legal

-- a report that isn't refused has no stamp that is still to come
stamp-come : (log : List Entry) (pg : PgId) (member : Member) (stamp : ℕ) (bad : Bool) → report_fault (incs_of log) pg member stamp bad ≡ None → stamp ≤ epoch (incs_of log)
stamp-come log pg member stamp bad fine = grind (arith, nat_tests)

pub legal-sent : (log : List Entry) → is_legal log ≡ true → IsSent log
legal-sent = legal-induction IsSent (λ x there. absurd (Contains-nil x there)) (λ log new fit sent x there.
    let rises : epoch (incs_of log) ≤ epoch (incs_of (log ++ new ∷ [])) =
    grind (arith, later_epoch, faultless-inc, fits-faultless, epoch-inc, epoch-other) in
    elim (contains-push log new x there) [
      | inl old ↦ let was = sent x old in grind (arith, was.info, was.report)
      | inr same ↦ grind (arith, same_Some, stamp-come, fits-faultless log x, nothing_ahead log, same-self)
    ])

-- a group that a log has stays
still-there : (pg : PgId) (later incs : List Incremental) (h : History AnyCode) → are_checked (incs ++ later) ≡ true → group_history incs pg ≡ Some h → group_history (incs ++ later) pg ≡ None → ⊥
still-there pg [] incs h checked is none = grind (arith, append-nil incs)
still-there pg (inc ∷ later) incs h checked is none =
    let one : incs ++ inc ∷ later ≡ then_with incs inc ++ later = grind (arith, append_assoc) in
    let front = front-checked (then_with incs inc) later (ap are_checked (sym one) ∙ checked) in
    let there = has_group-grows incs inc pg h (last-checked incs inc front) is in
    let next = some_is (group_history (then_with incs inc) pg) (history_there (then_with incs inc) pg ∙ there) in
    still-there pg later (then_with incs inc) next.0 (ap are_checked (sym one) ∙ checked) next.1 (ap (λ (l : List Incremental). group_history l pg) (sym one) ∙ none)

pub group-stays : (log more : List Entry) (pg : PgId) → are_checked (incs_of (log ++ more)) ≡ true → group_history (incs_of (log ++ more)) pg ≡ None → group_in log pg ≡ None
group-stays log more pg checked none = at (group_history (incs_of log) pg) refl where
  both : incs_of (log ++ more) ≡ incs_of log ++ incs_of more
  both = filter_map-append inc_of log more

  at : (found : Option (History AnyCode)) → group_history (incs_of log) pg ≡ found → option_map (group_with log pg) found ≡ None
  at None is = refl
  at (Some h) is = absurd (still-there pg (incs_of more) (incs_of log) h (ap are_checked (sym both) ∙ checked) is (ap (λ (l : List Incremental). group_history l pg) (sym both) ∙ none))

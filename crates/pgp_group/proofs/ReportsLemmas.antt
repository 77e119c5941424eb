-- What is kept of the reports of a group and of the logs of its members, as its log grows and as they are looked at.
use Rattle.pgp_group.proofs.Common.{◌≡◌, ℕ, ◌≤◌, List, [], ◌∷◌, ◌++◌, Option, None, Bool, true, false, ◌&&◌, cond, nat_le, length, take, refl, ap, sym, ◌∙◌, inl, inr, arith, append-nil, All, filter, find, flat_map, cases_Bool, and_parts, nat_tests, All-contains, All-filter, All-weaker, filter_passes, is_same_member, LogEntry, Member, Report, filter-agree, epoch, by_number, GroupLog, incs, reports, is_counted, is_of, member_log, member_entries, counts_by, reported_in, AreLogsOf, KeepsReports, AreCounted, IsReportedBy, CountedLog, Reports, zero, suc, ◌+◌, ◌<◌, Some, if◌then◌else◌, get_or, position, position_from, position_or_len, slice_get, slice_set, option_map_or, option_or, nat_cmp, filter-append, find_at, find-set, find_past, find-append, position-Some, fold-append, slice_get-get_or, Info, IsLogOf, number_of, flat_map-push}
use Rattle.pgp_group.specs.kept.InboxOf.{Arrivals, with_arrival}
use Rattle.pgp_group.specs.kept.KeptReports.{counts_log}
use Rattle.pgp_group.specs.declared.logs.Logs.{Logs}
use Rattle.pgp_group.proofs.InboxLemmas.{Grows, Grows-none, Grows-one, IsInboxOf-grown, seen-all, seen-grown, seen-sent}
use Rattle.pgp_group.proofs.LaterLemmas.{Outlasts, outlasts-same}
use Rattle.pgp_group.proofs.Lists.{filter-each}
use Rattle.pgp_group.proofs.PeerLemmas.{same_member}
use Rattle.std.proofs.lemmas.Iterator.Adapters.{position_from-zero}
use Rattle.pgp_missing.specs.Last.{put_in}

-- ---- the first place of a test

first-at : {X : Type 0} (p : X → Bool) (xs : List X) (i : ℕ) → position p xs ≡ Some i → i ≡ position_or_len p xs
first-at p xs i is = grind arith

pub found-at : {X : Type 0} (p : X → Bool) (xs : List X) (i : ℕ) (d : X) → position p xs ≡ Some i → find p xs ≡ Some (get_or xs i d)
found-at p xs i d is = find_at p xs ∙ ap (slice_get xs) (sym (first-at p xs i is)) ∙ slice_get-get_or xs i d (position-Some p xs i d is).0

none_from : {X : Type 0} (p : X → Bool) (i : ℕ) (xs : List X) → position_from p i xs ≡ None → find p xs ≡ None
none_from p i [] none = refl
none_from p i (x ∷ xs) none = grind (arith, none_from p (i + 1) xs)

pub found-none : {X : Type 0} (p : X → Bool) (xs : List X) → position p xs ≡ None → find p xs ≡ None
found-none p xs none = none_from p 0 xs (sym (position_from-zero p xs) ∙ none)

-- ---- the entries of a member

abbrev pub entries_from : Option CountedLog → List LogEntry
entries_from found = option_map_or (λ log. log.log.entries) found []

-- the log of the sender, with more entries
pub added : (sender member : Member) (logs : List CountedLog) (i : ℕ) (d y : CountedLog) (entries reported : List LogEntry) → position (is_of sender) logs ≡ Some i → d ≡ get_or logs i d → y.member ≡ d.member
    → ((r : List LogEntry) → d.log.entries ≡ by_number r → y.log.entries ≡ by_number (r ++ entries))
    → member_entries member logs ≡ by_number reported → member_entries member (slice_set logs i y) ≡ by_number (reported ++ (if is_same_member sender member then entries else []))
added sender member logs i d y entries reported at item same add is =
    grind (arith, nat_tests, position-Some, same_member, find-set, first-at, found-at, append-nil, find_past)

none_or : {X : Type 0} (found : Option X) → option_or found None ≡ found
none_or None = refl
none_or (Some x) = refl

-- the first log of the sender
pub added-first : (sender member : Member) (logs : List CountedLog) (y : CountedLog) (entries reported : List LogEntry) → position (is_of sender) logs ≡ None → y.member ≡ sender → y.log.entries ≡ by_number entries
    → member_entries member logs ≡ by_number reported → member_entries member (logs ++ y ∷ []) ≡ by_number (reported ++ (if is_same_member sender member then entries else []))
added-first sender member logs y entries reported none same new is =
    let found : member_log member (logs ++ y ∷ []) ≡ option_or (member_log member logs) (member_log member (y ∷ [])) = find-append (is_of member) logs (y ∷ []) in
    let alike : is_of member y ≡ is_same_member sender member = ap (λ (m : Member). is_same_member m member) same in
    elim (cases_Bool (is_same_member sender member)) [
      | inl it ↦ grind (arith, same_member sender member it, found-none (is_of sender) logs none, fold-append (put_in number_of nat_cmp) [] reported entries)
      | inr other ↦ grind (arith, none_or (member_log member logs), append-nil)
    ]

-- ---- bounds

abbrev pub judged : (Member → ℕ → Bool) → CountedLog → Bool
judged test log = test log.member log.stamp

head-entries : (test : CountedLog → Bool) (member : Member) (x : CountedLog) (xs : List CountedLog)
    → member_entries member (filter test (x ∷ xs)) ≡ cond (test x && is_of member x) x.log.entries (member_entries member (filter test xs))
head-entries test member x xs = grind arith

-- a log with other bounds, among those that pass a test
pub renewed : (test : Member → ℕ → Bool) (member : Member) (logs : List CountedLog) (i : ℕ) (d y : CountedLog) (reported : List LogEntry) → i < length logs → d ≡ get_or logs i d → y.member ≡ d.member → y.stamp ≡ d.stamp
    → ((r : List LogEntry) → d.log.entries ≡ by_number r → y.log.entries ≡ by_number r)
    → member_entries member (filter (judged test) logs) ≡ by_number reported → member_entries member (filter (judged test) (slice_set logs i y)) ≡ by_number reported
renewed test member [] i d y reported within item same stamp keeps is = absurd (omega arith)
renewed test member (x ∷ xs) zero d y reported within item same stamp keeps is = grind (arith, nat_tests, head-entries)
renewed test member (x ∷ xs) (suc i) d y reported within item same stamp keeps is =
    let old : List LogEntry = member_entries member (filter (judged test) xs) in
    let new : List LogEntry = member_entries member (filter (judged test) (slice_set xs i y)) in
    elim (cases_Bool (judged test x && is_of member x)) [
      | inl it ↦ grind (arith, head-entries (judged test) member x (slice_set xs i y), head-entries (judged test) member x xs)
      | inr other ↦
          head-entries (judged test) member x (slice_set xs i y) ∙ ap (λ (b : Bool). cond b x.log.entries new) other
          ∙ renewed test member xs i d y reported (omega arith) item same stamp keeps (sym (head-entries (judged test) member x xs ∙ ap (λ (b : Bool). cond b x.log.entries old) other) ∙ is)
    ]

-- the log that was renewed is the one of the member
pub renewed-one : (member : Member) (logs : List CountedLog) (i : ℕ) (d y log : CountedLog) (info : Info) (reported : List LogEntry) → position (is_of member) logs ≡ Some i → d ≡ get_or logs i d → y.member ≡ d.member
    → ((r : List LogEntry) → d.log.entries ≡ by_number r → IsLogOf info r y.log)
    → member_entries member logs ≡ by_number reported → member_log member (slice_set logs i y) ≡ Some log → IsLogOf info reported log.log
renewed-one member logs i d y log info reported at item same bounds is found = grind (arith, nat_tests, position-Some, find-set, first-at, found-at)

-- ---- one more report

pub reported_in-more : (g : GroupLog) (told : List Report) (x : Report) (member : Member)
    → reported_in g (told ++ x ∷ []) member ≡ reported_in g told member ++ (if is_same_member x.member member && is_counted g x.member x.stamp then x.log else [])
reported_in-more g told x member = grind (arith, nat_tests, filter-append, flat_map-push, append-nil)

-- one that counts, and one that doesn't
pub told-counted : (g : GroupLog) (told : List Report) (x : Report) (member : Member) → is_counted g x.member x.stamp ≡ true
    → reported_in g (told ++ x ∷ []) member ≡ reported_in g told member ++ (if is_same_member x.member member then x.log else [])
told-counted g told x member counted = grind (arith, reported_in-more g told x member)

pub told-other : (g : GroupLog) (told : List Report) (x : Report) (member : Member) → is_counted g x.member x.stamp ≡ false → reported_in g (told ++ x ∷ []) member ≡ reported_in g told member
told-other g told x member silent = grind (arith, reported_in-more g told x member, append-nil (reported_in g told member))

-- ---- devices that last

filter-and : {X : Type 0} (p : X → Bool) (b : Bool) (xs : List X) → filter (λ x. p x && b) xs ≡ cond b (filter p xs) []
filter-and p true [] = refl
filter-and p false [] = refl
filter-and p b (x ∷ xs) = grind (arith, filter-and p b xs)

-- of one member all that counted still counts, or none does
found-lasting : (test : CountedLog → Bool) (lasts : ℕ → Bool) (member : Member) (logs : List CountedLog)
    → member_log member (filter (λ log. test log && lasts log.member.osd) logs) ≡ cond (lasts member.osd) (member_log member (filter test logs)) None
found-lasting test lasts member [] = grind arith
found-lasting test lasts member (x ∷ xs) = grind (arith, nat_tests, found-lasting test lasts member xs)

-- ---- more reports, or another map

-- the report is of this member, and counts
abbrev is_by : GroupLog → Member → Report → Bool
is_by g member report = is_same_member report.member member && is_counted g report.member report.stamp

abbrev sent_in : Report → ℕ
sent_in report = report.stamp

KeepsReports-grown : (g after : GroupLog) (more : List Report) (old kept : Reports) → Outlasts g after → reports after ≡ reports g ++ more
    → Grows sent_in more (epoch (incs after)) old.inbox kept.inbox → kept.logs ≡ old.logs → KeepsReports g old → KeepsReports after kept
KeepsReports-grown g after more old kept on told grows logs is = record {
  inbox_is = IsInboxOf-grown is.inbox_is told on.rises grows;
  logs_sent = grind (arith, nat_tests, All-weaker);
  logs_are = λ settled member.
      let looked_at : List Report = take old.inbox.seen (reports g) in
      let was : Option CountedLog = member_log member (filter (counts_log g) old.logs.of_members.items) in
      let now : member_log member (filter (counts_log after) old.logs.of_members.items) ≡ cond (on.lasts member.osd) was None =
      ap (find (is_of member))
      (filter-agree (counts_log after) (λ (log : CountedLog). counts_log g log && on.lasts log.member.osd) old.logs.of_members.items
      (λ log there. on.counts log.member log.stamp
      (All-contains (λ (l : CountedLog). l.stamp ≤ epoch (incs g)) old.logs.of_members.items log (is.logs_sent (grows.sent settled).0) there)))
      ∙ found-lasting (counts_log g) on.lasts member old.logs.of_members.items in
      let left : filter (is_by after member) looked_at ≡ cond (on.lasts member.osd) (filter (is_by g member) looked_at) [] =
      filter-agree (is_by after member) (λ (r : Report). is_by g member r && on.lasts member.osd) looked_at
      (λ r there. each member r (seen-sent is.inbox_is (grows.sent settled).0 r there))
      ∙ filter-and (is_by g member) (on.lasts member.osd) looked_at in
      ap (λ (l : Logs). member_entries member (filter (counts_log after) l.of_members.items)) logs ∙ ap entries_from now
      ∙ joined (on.lasts member.osd) was (filter (is_by g member) looked_at) (is.logs_are (grows.sent settled).0 member)
      ∙ ap (λ (l : List Report). by_number (flat_map (λ (r : Report). r.log) l)) (sym left)
      ∙ ap (λ (l : List Report). by_number (reported_in after l member)) (sym (seen-grown is.inbox_is told grows));
}
  where
    each : (member : Member) (r : Report) → r.stamp ≤ epoch (incs g) → is_by after member r ≡ (is_by g member r && on.lasts member.osd)
    each member r early = grind (arith, cases_Bool (is_same_member r.member member), early)

    joined : (b : Bool) (found : Option CountedLog) (told' : List Report) → entries_from found ≡ by_number (flat_map (λ (r : Report). r.log) told')
        → entries_from (cond b found None) ≡ by_number (flat_map (λ (r : Report). r.log) (cond b told' []))
    joined true found told' same = same
    joined false found told' same = refl

-- no report more
pub KeepsReports-on : (g after : GroupLog) (kept : Reports) → Outlasts g after → reports after ≡ reports g → KeepsReports g kept → KeepsReports after kept
KeepsReports-on g after kept on told =
    KeepsReports-grown g after [] kept kept on (told ∙ sym (append-nil (reports g))) (Grows-none sent_in (epoch (incs after)) kept.inbox) refl

pub KeepsReports-new : (g after : GroupLog) (report : Report) (at : ℕ) (old kept : Reports) → at ≡ epoch (incs g) → IsReportedBy g report after → KeepsReports g old
    → kept.inbox ≡ with_arrival report at report.stamp old.inbox → kept.logs ≡ old.logs → KeepsReports after kept
KeepsReports-new g after report at old kept here told is inbox logs =
    KeepsReports-grown g after (report ∷ []) old kept (outlasts-same g after told.incs_are told.history_is) told.reports_are
    (Grows-one sent_in report at (epoch (incs after)) old.inbox kept.inbox (here ∙ sym (ap epoch told.incs_are)) inbox) logs is

-- ---- a look at them

-- what is kept is judged again
pub AreCounted-judged : (g : GroupLog) (old kept : Reports) → KeepsReports g old → old.inbox.ahead ≡ false → kept.inbox ≡ old.inbox
    → kept.logs.of_members.items ≡ filter (counts_log g) old.logs.of_members.items → AreCounted g kept
AreCounted-judged g old kept is settled inbox logs =
    grind (arith, nat_tests, each (filter (counts_log g) old.logs.of_members.items), filter_passes (counts_log g) old.logs.of_members.items, All-filter (counts_log g) (λ (l : CountedLog). l.stamp ≤ epoch (incs g)) old.logs.of_members.items)
  where
    each : (logs' : List CountedLog) → All (λ log. counts_log g log ≡ true) logs' → All (λ log. log.stamp ≤ epoch (incs g)) logs' → All (λ log. counts_by g (epoch (incs g)) log ≡ true) logs'
    each logs' counted early = grind (arith, nat_tests)

-- all were looked at, and the logs count
pub KeepsReports-heard : (g : GroupLog) (old kept : Reports) → AreCounted g old → kept.inbox ≡ record old.inbox { seen = length old.inbox.all }
    → AreLogsOf g (reports g) kept.logs.of_members.items → (old.inbox.ahead ≡ false → All (λ log. counts_by g (epoch (incs g)) log ≡ true) kept.logs.of_members.items) → KeepsReports g kept
KeepsReports-heard g old kept is inbox logs counted =
    grind (arith, nat_tests, seen-all is.inbox_is, All-weaker, and_parts, filter-each, All-contains)

-- ---- bounds

-- what a log says, except for its bounds, stays
pub KeepsReports-renewed : (g : GroupLog) (old kept : Reports) → KeepsReports g old → kept.inbox ≡ old.inbox
    → ((test : Member → ℕ → Bool) (member : Member) (reported : List LogEntry) → member_entries member (filter (judged test) old.logs.of_members.items) ≡ by_number reported → member_entries member (filter (judged test) kept.logs.of_members.items) ≡ by_number reported)
    → ((test : Member → ℕ → Bool) → All (λ log. judged test log ≡ true) old.logs.of_members.items → All (λ log. judged test log ≡ true) kept.logs.of_members.items)
    → KeepsReports g kept
KeepsReports-renewed g old kept is inbox entries each = record {
  inbox_is = grind (arith, nat_tests);
  logs_sent = λ settled.
      All-weaker (λ (log : CountedLog). judged by log ≡ true) (λ (log : CountedLog). log.stamp ≤ epoch (incs g)) early kept.logs.of_members.items
      (each by (All-weaker (λ (log : CountedLog). log.stamp ≤ epoch (incs g)) (λ (log : CountedLog). judged by log ≡ true) passes old.logs.of_members.items (is.logs_sent (same_ahead settled))));
  logs_are = λ settled member.
      entries (is_counted g) member (reported_in g (take old.inbox.seen (reports g)) member) (is.logs_are (same_ahead settled) member)
      ∙ ap (λ (a : Arrivals Report). by_number (reported_in g (take a.seen (reports g)) member)) (sym inbox);
}
  where
    same_ahead : kept.inbox.ahead ≡ false → old.inbox.ahead ≡ false
    same_ahead settled = sym (ap (λ (a : Arrivals Report). a.ahead) inbox) ∙ settled

    by : Member → ℕ → Bool
    by member stamp = nat_le stamp (epoch (incs g))

    early : (log : CountedLog) → judged by log ≡ true → log.stamp ≤ epoch (incs g)
    early log passes = let le : nat_le log.stamp (epoch (incs g)) ≡ true = passes in grind (arith, nat_tests)

    passes : (log : CountedLog) → log.stamp ≤ epoch (incs g) → judged by log ≡ true
    passes log sent = let le : nat_le log.stamp (epoch (incs g)) ≡ true = grind (arith, nat_tests) in le

pub AreLogsOf-renewed : (g : GroupLog) (told : List Report) (old kept : List CountedLog)
    → ((test : Member → ℕ → Bool) (member : Member) (reported : List LogEntry) → member_entries member (filter (judged test) old) ≡ by_number reported → member_entries member (filter (judged test) kept) ≡ by_number reported)
    → AreLogsOf g told old → AreLogsOf g told kept
AreLogsOf-renewed g told old kept entries is member =
    ap (member_entries member) (sym (filter-each (judged (λ _ _. true)) kept (λ _ _. refl)))
    ∙ entries (λ _ _. true) member (reported_in g told member) (ap (member_entries member) (filter-each (judged (λ _ _. true)) old (λ _ _. refl)) ∙ is member)

-- What a copy lacks by a log: the objects whose entry of the greatest number is a modify, in the order of their names.
use Rattle.std.proofs.Common.{◌≡◌, ℕ, ◌<◌, ◌≤◌, List, [], ◌∷◌, ◌++◌, Bool, true, false, ◌||◌, nat_lt, map, refl, ap, sym, ◌∙◌, subst, inl, inr, arith, ltb-true, lt-ltb}
use Rattle.std.specs.List.{Contains, filter}
use Rattle.std.specs.Prelude.{◌↔◌}
use Rattle.std.specs.Cmp.Lexicographic.{slice_cmp}
use Rattle.std.specs.Ordering.{nat_cmp, is_lt}
use Rattle.std.specs.declared.cmp.Ordering.TheVariants.{Less}
use Rattle.std.proofs.lemmas.Bool.{cases_Bool, cases_lt}
use Rattle.std.proofs.lemmas.Bool.Decides.{nat_tests}
use Rattle.std.proofs.lemmas.Cmp.{nat_cmp_total, nat_list_cmp_total}
use Rattle.std.proofs.lemmas.List.Elements.{All-contains, Contains-append_right}
use Rattle.std.proofs.lemmas.List.Kept.{AllPairs-filter}
use Rattle.std.proofs.lemmas.Map.Lookups.{exact_unsigned, exact_bytes}
use Rattle.pgp_ids.specs.Version.{is_older, is_same_version}
use Rattle.pgp_ids.specs.declared.log_entry.Change.{Change}
use Rattle.pgp_ids.specs.declared.log_entry.Change.TheVariants.{Modify, Delete}
use Rattle.pgp_ids.specs.declared.log_entry.LogEntry.{LogEntry}
use Rattle.pgp_ids.specs.declared.peer.MissingObject.{MissingObject}
use Rattle.pgp_ids.specs.declared.peer.PeerState.TheVariants.{Missing}
use Rattle.pgp_ids.specs.declared.report.Info.{Info}
use Rattle.pgp_lists.proofs.Members.{Contains-nil, Contains-here, Contains-cases, Contains-later, filter-contains, contains-filter, map-contains, contains-map}
use Rattle.pgp_lists.proofs.Pairs.{AllPairs-first, AllPairs-rest, AllPairs-mapped, AllPairs-weaker}
use Rattle.pgp_missing.specs.Kept.{KeptLog, IsLogOf}
use Rattle.pgp_missing.specs.Last.{IsLast}
use Rattle.pgp_missing.specs.Log.{number_of, by_number, IsByNumber, is_in_log, within, log_of, has_version, is_whole}
use Rattle.pgp_missing.specs.Missing.{object_of, by_object, entries_above, is_modify, missing_by, missing_above, IsByName, IsMissing, peer_state}
use Rattle.pgp_missing.proofs.LastLemmas.{NoneHas, IsLast-here, IsLast-later, Contains-last, last_of_each-ordered, last_of_each-IsLast}

-- ---- the log by number

abbrev pub Less_number : LogEntry → LogEntry → Type 0
Less_number a b = a.version.v < b.version.v

pub log_of-ascends : (info : Info) (reported : List LogEntry) → IsByNumber (log_of info reported)
log_of-ascends info reported =
    AllPairs-filter Less_number (λ (entry : LogEntry). is_in_log info entry.version.v) (by_number reported)
    (AllPairs-weaker (λ (a b : LogEntry). nat_cmp a.version.v b.version.v ≡ Less) Less_number (λ a b less. grind (arith, nat_tests)) (by_number reported)
    (last_of_each-ordered number_of nat_cmp nat_cmp_total exact_unsigned reported))

-- what is kept of a log has just the last entry of each number
pub kept-last : (info : Info) (reported : List LogEntry) (log : KeptLog) → IsLogOf info reported log → (entry : LogEntry) → Contains log.entries entry ↔ IsLast number_of reported entry
kept-last info reported log is entry = rw is.of_reported (last_of_each-IsLast number_of nat_cmp nat_cmp_total exact_unsigned reported entry)

pub log_of-last : (info : Info) (reported : List LogEntry) (entry : LogEntry)
    → Contains (log_of info reported) entry ↔ ((is_in_log info entry.version.v ≡ true) × IsLast number_of reported entry)
log_of-last info reported entry =
    let lasts = last_of_each-IsLast number_of nat_cmp nat_cmp_total exact_unsigned reported entry in
    let in_log = λ (e : LogEntry). is_in_log info e.version.v in (
      λ in'. let kept = filter-contains in_log (by_number reported) entry in' in (kept.1, lasts.0 kept.0),
      λ is. contains-filter in_log (by_number reported) entry (lasts.1 is.1) is.0,
    )

-- ---- the objects by their last entries

modify_is : (change : Change) → is_modify change ≡ true → change ≡ Modify
modify_is Modify is = refl
modify_is Delete is = cc

abbrev modifies : LogEntry → Bool
modifies entry = is_modify entry.change

pub missing_above-last : (v : ℕ) (entries : List LogEntry) (missing : MissingObject) → Contains (missing_above v entries) missing
    ↔ ((entry : LogEntry) × IsLast object_of (entries_above v entries) entry × (entry.change ≡ Modify) × (missing_by entry ≡ missing))
missing_above-last v entries missing =
    let above : List LogEntry = entries_above v entries in
    let lasts = last_of_each-IsLast object_of (slice_cmp nat_cmp) nat_list_cmp_total exact_bytes above in (
      λ in'.
          let made = map-contains missing_by (filter modifies (by_object above)) missing in' in
          let kept = filter-contains modifies (by_object above) made.0 made.1.0 in
          (made.0, (lasts made.0).0 kept.0, modify_is _ kept.1, made.1.1),
      λ found.
          let there = contains-filter modifies (by_object above) found.0 ((lasts found.0).1 found.1) (ap is_modify found.2) in
          subst (Contains (missing_above v entries)) found.3 (contains-map missing_by (filter modifies (by_object above)) found.0 there),
    )

-- ---- in the order of the numbers the last entry of an object is the one of the greatest number

-- no entry of the object has a greater number
abbrev Newest : List LogEntry → LogEntry → Type 0
Newest log entry = (other : LogEntry) → Contains log other → other.object ≡ entry.object → other.version.v ≤ entry.version.v

last-newest : (before after : List LogEntry) (entry : LogEntry) → NoneHas object_of after entry → IsByNumber (before ++ entry ∷ after) → Newest (before ++ entry ∷ after) entry
last-newest [] after entry none ascends other in' same = elim (Contains-cases entry after other in') [
  | inl here ↦ omega (arith, ap number_of here)
  | inr later ↦ absurd (none other later same)
]
last-newest (x ∷ before) after entry none ascends other in' same = elim (Contains-cases x (before ++ entry ∷ after) other in') [
  | inl here ↦
      let there = Contains-append_right before (entry ∷ after) entry (Contains-here entry after) in
      let less = All-contains (Less_number x) (before ++ entry ∷ after) entry (AllPairs-first Less_number x _ ascends) there in
      omega (arith, less, ap number_of here)
  | inr later ↦ last-newest before after entry none (AllPairs-rest Less_number x _ ascends) other later same
]

newest-last : (log : List LogEntry) (entry : LogEntry) → IsByNumber log → Contains log entry → Newest log entry → IsLast object_of log entry
newest-last [] entry ascends in' newest = absurd (Contains-nil entry in')
newest-last (x ∷ log) entry ascends in' newest = elim (Contains-cases x log entry in') [
  | inl here ↦ subst (IsLast object_of (x ∷ log)) here (IsLast-here object_of x log (λ other later same.
      let less = All-contains (Less_number x) log other (AllPairs-first Less_number x log ascends) later in
      let most = newest other (Contains-later x log other later) (same ∙ ap object_of here) in
      omega (arith, less, most, ap number_of here)))
  | inr later ↦
      IsLast-later object_of x log entry
      (newest-last log entry (AllPairs-rest Less_number x log ascends) later (λ other in'. newest other (Contains-later x log other in')))
]

-- by a log a copy lacks the objects whose entry of the greatest number is a modify
pub missing-newest : (v : ℕ) (log : List LogEntry) → IsByNumber log → (missing : MissingObject)
    → Contains (missing_above v log) missing ↔ ((entry : LogEntry) × IsMissing v log missing entry)
missing-newest v log ascends missing =
    let lasts = missing_above-last v log missing in
    let above = λ (entry : LogEntry). nat_lt v entry.version.v in
    let ordered : IsByNumber (entries_above v log) = AllPairs-filter Less_number above log ascends in (
      λ in'.
          let found = lasts.0 in' in
          let entry : LogEntry = found.0 in
          let last = found.1 in
          let newest = subst (λ es. IsByNumber es → Newest es entry) (sym last.split) (last-newest last.before last.after entry last.last) ordered in
          let kept = filter-contains above log entry (Contains-last object_of (entries_above v log) entry last) in
          let over : v < entry.version.v = ltb-true v entry.version.v kept.1 in (
            entry,
            record {
              there = kept.0;
              above = over;
              modify = found.2;
              object = λ i. (found.3 i).object;
              version = λ i. (found.3 i).version;
              newest = λ other in' same. elim (cases_lt v other.version.v) [
                | inl high ↦ newest other (contains-filter above log other in' (lt-ltb v other.version.v high)) same
                | inr low ↦ omega arith
              ];
            },
          ),
      λ found.
          let is = found.1 in
          let there = contains-filter above log found.0 is.there (lt-ltb v _ is.above) in
          lasts.1 (
            found.0,
            newest-last (entries_above v log) found.0 ordered there (λ other in'. is.newest other (filter-contains above log other in').0),
            is.modify,
            λ i. record { object = is.object i; version = is.version i },
          ),
    )

-- ---- in the order of the names

pub missing_above-by_name : (v : ℕ) (entries : List LogEntry) → IsByName (missing_above v entries)
missing_above-by_name v entries =
    AllPairs-mapped missing_by (λ (a b : LogEntry). slice_cmp nat_cmp a.object b.object ≡ Less)
    (λ (a b : MissingObject). is_lt (slice_cmp nat_cmp a.object b.object) ≡ true) (λ a b less. ap is_lt less) (filter modifies (by_object (entries_above v entries)))
    (AllPairs-filter (λ (a b : LogEntry). slice_cmp nat_cmp a.object b.object ≡ Less) modifies (by_object (entries_above v entries))
    (last_of_each-ordered object_of (slice_cmp nat_cmp) nat_list_cmp_total exact_bytes (entries_above v entries)))

-- ---- a peer that has the last write

none_above : (info : Info) (entries : List LogEntry) → entries_above info.last_update.v (within info entries) ≡ []
none_above info [] = refl
none_above info (x ∷ xs) = grind (arith, nat_tests, cases_Bool (is_in_log info x.version.v), none_above info xs)

pub equal_peer : (best : Info) (reported : List LogEntry) (peer : Info) → is_whole best reported ≡ true → is_older best.last_update best.log_tail ≡ false → peer.complete ≡ true → peer.last_update ≡ best.last_update → peer_state best reported peer ≡ Missing []
equal_peer best reported peer whole valid complete same =
    let none : missing_above best.last_update.v (log_of best reported) ≡ [] =
    ap (λ (entries : List LogEntry). map missing_by (filter modifies (by_object entries))) (none_above best (by_number reported)) in
    let ended : (is_same_version best.last_update best.log_tail || has_version best.last_update (log_of best reported)) ≡ true =
    grind (arith, nat_tests, whole) in
    rw (complete, same, valid, ended, none) refl

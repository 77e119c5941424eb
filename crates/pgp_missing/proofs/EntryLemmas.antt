-- Entries of a map by their numbers.
use Rattle.std.proofs.Common.{◌≡◌, ◌≤◌, ℕ, List, [], ◌∷◌, true, false, ◌&&◌, ◌||◌, nat_eq, nat_lt, nat_le, min, eqb-true, map, filter, refl, ap, sym, ◌∙◌, inl, inr, arith}
use Rattle.std.specs.List.{All}
use Rattle.std.specs.List.Sorted.{IsStrictlySortedBy}
use Rattle.std.specs.Map.{keys_of, lookup}
use Rattle.std.specs.BTreeMap.{is_at, insert_entry}
use Rattle.std.specs.Cmp.Lexicographic.{slice_cmp}
use Rattle.std.specs.BTreeMap.Range.{range_contains, entries_between}
use Rattle.std.specs.declared.ops.Bound.TheVariants.{Included, Excluded}
use Rattle.std.specs.Option.{option_map_or}
use Rattle.std.specs.Ordering.{nat_cmp}
use Rattle.std.specs.declared.cmp.Ordering.TheVariants.{Less}
use Rattle.std.proofs.lemmas.Bool.{and_parts}
use Rattle.std.proofs.lemmas.Bool.Decides.{nat_tests, eqb_tells}
use Rattle.std.proofs.lemmas.List.{map-id, length-map}
use Rattle.std.proofs.lemmas.List.Sums.{length-filter, count_by-le-length}
use Rattle.std.proofs.lemmas.List.Elements.{All-head, All-tail, filter_agree}
use Rattle.std.proofs.lemmas.Cmp.{nat_cmp_total, nat_list_cmp_total}
use Rattle.std.proofs.lemmas.Map.Iter.{rest_more}
use Rattle.std.proofs.lemmas.Map.Keys.{sorted_tail}
use Rattle.std.proofs.lemmas.Map.Lookups.{exact_unsigned, exact_bytes}
use Rattle.std.proofs.lemmas.Map.Views.{All-after_first, any-filter_same}
use Rattle.pgp_ids.specs.Version.{is_older, is_same_version}
use Rattle.pgp_ids.specs.declared.log_entry.LogEntry.{LogEntry}
use Rattle.pgp_ids.specs.declared.peer.PeerState.{PeerState}
use Rattle.pgp_ids.specs.declared.peer.PeerState.TheVariants.{Missing}
use Rattle.pgp_ids.specs.declared.report.Info.{Info}
use Rattle.pgp_ids.specs.declared.version.Version.{Version}
use Rattle.pgp_missing.specs.Last.{put_in}
use Rattle.pgp_missing.specs.Log.{number_of, between, log_of, has_version}
use Rattle.pgp_missing.specs.Missing.{entries_above, object_of, by_object, missing_by, is_modify, missing_above, peer_state}
use Rattle.pgp_missing.specs.Kept.{KeptLog, IsLogOf, numbered, named}
use Rattle.pgp_missing.specs.declared.entries.Write.{Write}
use Rattle.pgp_missing.specs.declared.entries.Newest.{Newest}
use Rattle.pgp_missing.proofs.LastLemmas.{map-insert_entry}
use Rattle.pgp_missing.proofs.Lists.{filter-both, map-filter-map}

-- ---- the entries between two numbers

-- a range that begins at its end has none of them, as one that begins after it
in_range : (above last v : ℕ) → range_contains nat_cmp (Excluded (min above last)) (Included last) v ≡ (nat_lt above v && nat_le v last)
in_range above last v = grind (arith, nat_tests)

pub ranged : (above last : ℕ) (es : List (ℕ × Write))
    → map numbered (entries_between nat_cmp (Excluded (min above last)) (Included last) es) ≡ between above last (map numbered es)
ranged above last es =
    ap (map numbered) (filter_agree _ (λ e. nat_lt above (numbered e).version.v && nat_le (numbered e).version.v last) (λ e. in_range above last e.0) es)
    ∙ sym (sym (map-id _) ∙ map-filter-map (λ entry. entry) (λ (entry : LogEntry). nat_lt above entry.version.v && nat_le entry.version.v last) numbered es)

pub ruleset between_laws = (nat_tests, ranged)

-- ---- whether an entry has a version

-- one between two numbers has it where its number is between these and some entry has it
pub has_version-between : (above last : ℕ) (version : Version) (entries : List LogEntry)
    → has_version version (between above last entries) ≡ ((nat_lt above version.v && nat_le version.v last) && has_version version entries)
has_version-between above last version =
    let inside = λ (v : ℕ). nat_lt above v && nat_le v last in
    any-filter_same (λ e. is_same_version e.version version) (λ e. inside e.version.v) (inside version.v)
    (λ e same. ap inside (eqb-true e.version.v version.v (and_parts (nat_eq e.version.epoch version.epoch) _ same).1))

module _ (version : Version) where
  none_after : (es : List (ℕ × Write)) → All (λ k. nat_cmp version.v k ≡ Less) (keys_of es) → has_version version (map numbered es) ≡ false
  none_after [] later = refl
  none_after (e ∷ es) later =
      let here = All-head (λ k. nat_cmp version.v k ≡ Less) e.0 (keys_of es) later in
      let rest = none_after es (All-tail (λ k. nat_cmp version.v k ≡ Less) e.0 (keys_of es) later) in
      grind (arith, nat_tests, here, rest)

  pub has_version-lookup : (es : List (ℕ × Write)) → IsStrictlySortedBy nat_cmp (keys_of es)
      → has_version version (map numbered es) ≡ option_map_or (λ write. nat_eq write.epoch version.epoch) (lookup (is_at (nat_cmp version.v)) es) false
  has_version-lookup [] ordered = refl
  has_version-lookup (e ∷ es) ordered = elim (eqb_tells e.0 version.v) [
    | inl same ↦
        let later : All (λ k. nat_cmp version.v k ≡ Less) (keys_of es) = rw same.1 at (All-after_first nat_cmp e.0 (keys_of es) ordered) in
        grind (arith, nat_tests, same.1, none_after es later)
    | inr other ↦ grind (arith, nat_tests, other.1, has_version-lookup es (sorted_tail nat_cmp e.0 (keys_of es) ordered))
  ]

pub ruleset version_laws = (nat_tests, has_version-between, has_version-lookup)

-- how many entries there are
pub ruleset full_laws = (nat_tests, length-filter, count_by-le-length, length-map)

-- ---- what is put into a map, and what is made of it

pub put_numbered : (es : List (ℕ × Write)) (v : ℕ) (write : Write) → map numbered (insert_entry nat_cmp es v write) ≡ put_in number_of nat_cmp (map numbered es) (numbered (v, write))
put_numbered = map-insert_entry number_of nat_cmp nat_cmp_total exact_unsigned numbered (λ _. refl)

pub put_named : (es : List (List ℕ × Newest)) (object : List ℕ) (newest : Newest)
    → map named (insert_entry (slice_cmp nat_cmp) es object newest) ≡ put_in object_of (slice_cmp nat_cmp) (map named es) (named (object, newest))
put_named = map-insert_entry object_of (slice_cmp nat_cmp) nat_list_cmp_total exact_bytes named (λ _. refl)

-- a loop over the entries, each put in
pub ruleset newest_laws = (rest_more, put_named)

pub missing_named : (es : List (List ℕ × Newest))
    → map missing_by (filter (λ e. is_modify e.change) (map named es)) ≡ map (λ e. missing_by (named e)) (filter (λ e. is_modify e.1.change) es)
missing_named = map-filter-map missing_by (λ e. is_modify e.change) named

-- ---- what a copy lacks by the entries above its last write

pub above_between : (tail last above : ℕ) (entries : List LogEntry) → tail ≤ above
    → entries_above above (between tail last entries) ≡ between above last entries
above_between tail last above entries more =
    filter-both _ _ entries
    ∙ filter_agree (λ e. (nat_lt tail e.version.v && nat_le e.version.v last) && nat_lt above e.version.v)
    (λ e. nat_lt above e.version.v && nat_le e.version.v last) (λ e. grind (arith, nat_tests)) entries

pub ruleset missing_laws = (arith, missing_named, above_between)

-- by a log that the member's last write is a version of, or at whose tail it stands
pub missing_after : (info : Info) (reported : List LogEntry) (log : KeptLog) → IsLogOf info reported log → (peer : Info)
    → peer.complete ≡ true → is_older peer.last_update log.log_tail ≡ false
    → (is_same_version peer.last_update log.log_tail || has_version peer.last_update (between log.log_tail.v log.last_update.v log.entries)) ≡ true
    → Missing (missing_above peer.last_update.v (between peer.last_update.v log.last_update.v log.entries)) ≡ peer_state info reported peer
missing_after info reported log is peer complete valid ended =
    let last = peer.last_update in
    let inside = has_version-between log.log_tail.v log.last_update.v last log.entries in
    let later : log.log_tail.v ≤ last.v = grind (arith, nat_tests, ended, inside) in
    let same = above_between log.log_tail.v log.last_update.v last.v log.entries later in
    let own = above_between last.v log.last_update.v last.v log.entries (omega arith) in
    let of : List LogEntry → PeerState = λ entries. Missing (map missing_by (filter (λ e. is_modify e.change) (by_object entries))) in
    let valid' : is_older last info.log_tail ≡ false = ap (is_older last) (sym is.from_tail) ∙ valid in
    let ended' : (is_same_version last info.log_tail || has_version last (log_of info reported)) ≡ true =
    sym (λ i. is_same_version last (is.from_tail i) || has_version last (between (is.from_tail i).v (is.to_last i).v (is.of_reported i))) ∙ ended in
    let state : peer_state info reported peer ≡ Missing (missing_above last.v (log_of info reported)) = rw (complete, valid', ended') refl in
    ap of (own ∙ sym same ∙ (λ i. entries_above last.v (between (is.from_tail i).v (is.to_last i).v (is.of_reported i)))) ∙ sym state

-- Two logs that tell the same of a group give the same view of it, except for count.
use Rattle.pgp_group.proofs.Common.{◌≡◌, ℕ, ◌≤◌, List, [], ◌∷◌, Option, Some, None, Bool, true, length, map, fold, max, refl, ap, ap₂, sym, ◌∙◌, subst, inl, inr, arith, Contains, filter, find, flat_map, last_or, option_map, nat_tests, filter-append, enough_of, is_by_place, AnyCode, is_same_member, Entry, Incremental, Member, PgId, Info, Report, History, past_intervals-same, Contains-nil, Contains-here, Contains-later, Contains-cases, contains-filter, contains-map, filter-contains, find-some, map-contains, epoch, prior_set, status, incs_of, group_history, cleans, group_with, infos, reports, GroupLog, counted_infos, last_of_each_member, les, past, leader, view_of, scratch}
use Rattle.pgp_info.proofs.SameInfos.{same_best}
use Rattle.pgp_group.specs.Interleaving.{TellTheSame, with_count}
use Rattle.pgp_group.specs.Peering.{info_from}
use Rattle.pgp_group.specs.Prefers.{prefers}
use Rattle.pgp_group.proofs.HeardLemmas.{HasDistinctMembers-last_of, last_of-IsLastOfMember}
use Rattle.pgp_group.proofs.LaterLemmas.{counts_by}
pub use Rattle.pgp_group.proofs.Lists.{any-found}
use Rattle.pgp_group.proofs.Lists.{filter-both, filter-none, last_or-any, last_or-snoc}
use Rattle.pgp_group.proofs.PeerLemmas.{same_member}
use Rattle.pgp_group.proofs.ViewLemmas.{prefers_is_preference}
use Rattle.pgp_group.proofs.SameViewLemmas.{AreAlike, view-alike}

-- ---- elements that pass two tests

filter-swap : {X : Type 0} (p q : X → Bool) (xs : List X) → filter p (filter q xs) ≡ filter q (filter p xs)
filter-swap p q [] = refl
filter-swap p q (x ∷ xs) = let rest : filter p (filter q xs) ≡ filter q (filter p xs) = filter-swap p q xs in grind arith

-- ---- infos of one member

abbrev pub is_of : Member → Info → Bool
is_of member info = is_same_member info.member member

pub is_of_itself : (info : Info) → is_of info.member info ≡ true
is_of_itself info = grind (arith, nat_tests)

-- both lists have the same infos of each member, in the same order
abbrev AlikeByMember : List Info → List Info → Type 0
AlikeByMember a b = (member : Member) → filter (is_of member) a ≡ filter (is_of member) b

alike_back : (a b : List Info) → AlikeByMember a b → AlikeByMember b a
alike_back a b alike = λ member. sym (alike member)

alike-among : (a b : List Info) → AlikeByMember a b → (info : Info) → Contains a info → Contains b info
alike-among a b alike info there =
    let kept : Contains (filter (is_of info.member) a) info = contains-filter (is_of info.member) a info there (is_of_itself info) in
    (filter-contains (is_of info.member) b info (subst (λ (l : List Info). Contains l info) (alike info.member) kept)).0

-- the last info of a member is the one that is kept of it
pub find-last_of : (member : Member) (told : List Info) → find (is_of member) (last_of_each_member told) ≡ last_or None (filter (is_of member) told)
find-last_of member [] = refl
find-last_of member (first ∷ told) =
    grind (
      arith,
      find-last_of member told,
      same_member first.member member,
      last_or-any (is_of member) None (Some first) told,
      filter-none (is_of member) told,
    )

-- an info that is kept is the last of its member
pub last_of-found : (told : List Info) (info : Info) → Contains (last_of_each_member told) info → last_or None (filter (is_of info.member) told) ≡ Some info
last_of-found told info there =
    let is = last_of-IsLastOfMember told info there in
    let mine : filter (is_of info.member) (info ∷ is.after) ≡ info ∷ [] = rw (is_of_itself info) (ap (λ (l : List Info). info ∷ l) (filter-none (is_of info.member) is.after is.last)) in
    grind (arith, filter-append (is_of info.member) is.before (info ∷ is.after), last_or-snoc None (filter (is_of info.member) is.before) info)

-- the info that is kept of each member is the same
kept-same : (a b : List Info) → AlikeByMember a b → (member : Member) → info_from (last_of_each_member a) member ≡ info_from (last_of_each_member b) member
kept-same a b alike member = find-last_of member a ∙ ap (last_or None) (alike member) ∙ sym (find-last_of member b)

kept-among : (a b : List Info) → AlikeByMember a b → (info : Info) → Contains (last_of_each_member a) info → Contains (last_of_each_member b) info
kept-among a b alike info there =
    (find-some (is_of info.member) (last_of_each_member b) info
    (sym (kept-same a b alike info.member) ∙ find-last_of info.member a ∙ last_of-found a info there)).0

-- ---- the greatest of a number for each info

greatest-start : (start : ℕ) (f : Info → ℕ) (told : List Info) → start ≤ fold max start (map f told)
greatest-start start f [] = omega arith
greatest-start start f (first ∷ told) = grind (arith, greatest-start (max start (f first)) f told)

pub greatest-above : (start : ℕ) (f : Info → ℕ) (told : List Info) (info : Info) → Contains told info → f info ≤ fold max start (map f told)
greatest-above start f [] info there = absurd (Contains-nil info there)
greatest-above start f (first ∷ told) info there = elim (Contains-cases first told info there) [
  | inl here ↦ grind (arith, greatest-start (max start (f first)) f told)
  | inr later ↦ greatest-above (max start (f first)) f told info later
]

pub greatest-below : (start limit : ℕ) (f : Info → ℕ) (told : List Info) → start ≤ limit → ((info : Info) → Contains told info → f info ≤ limit) → fold max start (map f told) ≤ limit
greatest-below start limit f [] low each = low
greatest-below start limit f (first ∷ told) low each =
    let here : f first ≤ limit = each first (Contains-here first told) in
    greatest-below (max start (f first)) limit f told (omega (arith, low, here)) (λ info there. each info (Contains-later first told info there))

greatest-among : (f : Info → ℕ) (a b : List Info) → AlikeByMember a b → fold max 0 (map f a) ≤ fold max 0 (map f b)
greatest-among f a b alike =
    greatest-below 0 (fold max 0 (map f b)) f a (omega arith) (λ info there. greatest-above 0 f b info (alike-among a b alike info there))

greatest-same : (f : Info → ℕ) (a b : List Info) → AlikeByMember a b → fold max 0 (map f a) ≡ fold max 0 (map f b)
greatest-same f a b alike = omega (arith, greatest-among f a b alike, greatest-among f b a (alike_back a b alike))

-- ---- what the group has heard, in two logs

abbrev info_counts : History AnyCode → List Incremental → Info → Bool
info_counts h incs info = counts_by incs h info.member info.stamp

abbrev report_counts : History AnyCode → List Incremental → Report → Bool
report_counts h incs report = counts_by incs h report.member report.stamp

abbrev is_by : Member → Report → Bool
is_by member report = is_same_member report.member member

told_back : (log other : List Entry) (pg : PgId) → TellTheSame log other pg → TellTheSame other log pg
told_back log other pg same = record {
  incs = sym same.incs;
  infos = λ member. sym (same.infos member);
  reports = λ member. sym (same.reports member);
}

clean-among : (log other : List Entry) (pg : PgId) (h : History AnyCode) → TellTheSame log other pg → (epoch : ℕ) → Contains (cleans (group_with log pg h)) epoch → Contains (cleans (group_with other pg h)) epoch
clean-among log other pg h same epoch there =
    let clean : Info → ℕ = λ info. info.last_epoch_clean in
    let told = map-contains clean (infos (group_with log pg h)) epoch there in
    let told' = alike-among (infos (group_with log pg h)) (infos (group_with other pg h)) same.infos told.0 told.1.0 in
    subst (Contains (cleans (group_with other pg h))) told.1.1 (contains-map clean (infos (group_with other pg h)) told.0 told')

module _ (log other : List Entry) (pg : PgId) (h : History AnyCode) (same : TellTheSame log other pg) where
  abbrev g : GroupLog
  g = group_with log pg h

  abbrev after : GroupLog
  after = group_with other pg h

  counted-alike : AlikeByMember (counted_infos after) (counted_infos g)
  counted-alike = λ member.
      filter-swap (is_of member) (info_counts h (incs_of other)) (infos after)
      ∙ ap₂ (λ (incs : List Incremental) (l : List Info). filter (info_counts h incs) l) (sym same.incs) (sym (same.infos member))
      ∙ sym (filter-swap (is_of member) (info_counts h (incs_of log)) (infos g))

  alike : AreAlike g after
  alike =
      let a : List Info = counted_infos g in
      let b : List Info = counted_infos after in
      let led : Option Member = leader g in
      let back : incs_of other ≡ incs_of log = sym same.incs in
      let started : les after ≡ les g = greatest-same (λ info. info.history_les) (infos after) (infos g) (told_back log other pg same).infos in
      let stood : past after ≡ past g =
      past_intervals-same enough_of is_by_place (cleans after) (cleans g) h
      (clean-among other log pg h (told_back log other pg same)) (clean-among log other pg h same) in
      record {
        code = refl;
        current = refl;
        first = refl;
        past = stood;
        les = started;
        prior = λ i. prior_set (enough_of h.code) (is_by_place h.code) (status (back i)) (started i) (stood i) h.current;
        heard = kept-same b a counted-alike;
        best = same_best (prefers h.code led) (last_of_each_member b) (last_of_each_member a) (prefers_is_preference h.code led)
            (HasDistinctMembers-last_of b) (HasDistinctMembers-last_of a) (kept-among b a counted-alike)
            (kept-among a b (alike_back b a counted-alike));
        reported = λ member. ap (flat_map (λ (report : Report). report.log))
            (filter-both (is_by member) (report_counts h (incs_of other)) (reports after)
            ∙ ap₂ (λ (incs : List Incremental) (l : List Report). filter (report_counts h incs) l) (sym same.incs)
            (sym (same.reports member))
            ∙ sym (filter-both (is_by member) (report_counts h (incs_of log)) (reports g)));
        thru = grind arith;
      }

pub interleaved : (log other : List Entry) (pg : PgId) → TellTheSame log other pg → scratch other pg ≡ option_map (with_count (length other)) (scratch log pg)
interleaved log other pg same =
    sym (ap (λ (l : List Incremental). option_map view_of (option_map (group_with other pg) (group_history l pg))) same.incs)
    ∙ by_history (group_history (incs_of log) pg)
  where
    by_history : (found : Option (History AnyCode)) → option_map view_of (option_map (group_with other pg) found) ≡ option_map (with_count (length other)) (option_map view_of (option_map (group_with log pg) found))
    by_history None = refl
    by_history (Some h) = grind (arith, view-alike (group_with log pg h) (group_with other pg h) (alike log other pg h same))

-- Infos of distinct members, and the states of peers: each other heard member of up and acting has one, in ascending order.
use Rattle.pgp_group.proofs.Common.{◌≡◌, ℕ, ◌+◌, ◌<◌, List, [], ◌∷◌, ◌++◌, Option, Some, None, Bool, true, not, get_or, length, map, take, refl, ap, sym, ◌∙◌, subst, inl, inr, arith, append-nil, if◌then◌else◌, Contains, cons_option, filter, filter_map, list_any, option_map_or, on, and_parts, eqb-true, true≢false, cases_order, nat_tests, All-contains, All-contains_itself, All-weaker, filter_map-append, AllPairs-cons, AllPairs-filter, is_before, is_same_member, Member, LogEntry, PeerMissing, Info, IsAscending, peer_state, Contains-first, Contains-later, Contains-cases, Contains-nil, filter-contains, contains-filter, any-contains, contains-any, find-some, find-none, AllPairs-first, AllPairs-mapped, AllPairs-nil, AllPairs-rest, ascending-contains, contains-ascending, IsAscending-ascending, GroupLog, HasDistinctMembers, counted_infos, heard, up_members, acting_members, present_members, others_heard, is_peer, peers, peer_missing, peer_states, whole_best, get_or_default, false, ◌&&◌, cases_Bool, without, filter-agree}
use Rattle.pgp_prior.specs.MemberOrder.{member_order}
use Rattle.pgp_group.proofs.HeardLemmas.{HasDistinctMembers-last_of}
use Rattle.pgp_group.proofs.Lists.{filter-passes, filter-fails, filter_map-from, filter-both}
use Rattle.pgp_group.specs.Peering.{info_from}
use Rattle.std.proofs.lemmas.List.Filters.{length-filter_both}

-- ---- members

pub same_member : (a b : Member) → is_same_member a b ≡ true → a ≡ b
same_member a b same = grind (arith, nat_tests, and_parts, eqb-true)

same_member_as : (a b : Member) → a ≡ b → is_same_member a b ≡ true
same_member_as a b same = subst (λ m. is_same_member a m ≡ true) same (grind (arith, nat_tests))

-- infos of distinct members that are of one member are the same
pub one_of_member : (infos : List Info) → HasDistinctMembers infos → (a b : Info) → Contains infos a → Contains infos b → a.member ≡ b.member → a ≡ b
one_of_member infos distinct a b in_a in_b same = grind (arith, get_or_default infos in_b.0 a b in_b.1, cases_order in_a.0 in_b.0)

-- ---- the info of a member

record Found (infos : List Info) (member : Member) (info : Info) : Type 0 where
  there : Contains infos info
  of_member : info.member ≡ member

-- what is found is an info of the member
found_of : (infos : List Info) (member : Member) (info : Info) → info_from infos member ≡ Some info → Found infos member info
found_of infos member info found = grind (arith, nat_tests, find-some, same_member)

-- where there is an info of the member, one is found
some_of : (infos : List Info) (member : Member) (info : Info) → Contains infos info → info.member ≡ member → (found : Option Info) → info_from infos member ≡ found → (other : Info) × (info_from infos member ≡ Some other)
some_of infos member info there same None none =
    absurd (true≢false (sym (same_member_as info.member member same) ∙ find-none (λ (i : Info). is_same_member i.member member) infos info none there))
some_of infos member info there same (Some other) found = (other, found)

pub info_of-is : (infos : List Info) → HasDistinctMembers infos → (info : Info) → Contains infos info → info_from infos info.member ≡ Some info
info_of-is infos distinct info there =
    let some = some_of infos info.member info there refl (info_from infos info.member) refl in
    let found = found_of infos info.member some.0 some.1 in
    some.1 ∙ ap Some (one_of_member infos distinct some.0 info found.there there found.of_member)

-- ---- a list of what is found

contains-cons_option : {Y : Type 0} (o : Option Y) (ys : List Y) (y : Y) → Contains ys y → Contains (cons_option o ys) y
contains-cons_option None ys y there = there
contains-cons_option (Some z) ys y there = Contains-later z ys y there

pub contains-filter_map : {X Y : Type 0} (f : X → Option Y) (xs : List X) (x : X) (y : Y) → Contains xs x → f x ≡ Some y → Contains (filter_map f xs) y
contains-filter_map f [] x y there is = absurd (Contains-nil x there)
contains-filter_map {Y = Y} f (first ∷ xs) x y there is = elim (Contains-cases first xs x there) [
  | inl here ↦ subst (λ (o : Option Y). Contains (cons_option o (filter_map f xs)) y) (sym (ap f here ∙ is)) (Contains-first y (filter_map f xs) y refl)
  | inr later ↦ contains-cons_option (f first) (filter_map f xs) y (contains-filter_map f xs x y later is)
]

-- what is found for an ascending list ascends
ascend_found : (f : Member → Option Info) → ((m : Member) (info : Info) → f m ≡ Some info → info.member ≡ m) → (members : List Member) → IsAscending is_before members → IsAscending (on (λ (info : Info). info.member) is_before) (filter_map f members)
ascend_found f law [] ascend = AllPairs-nil (λ (x y : Info). is_before x.member y.member ≡ true)
ascend_found f law (m ∷ members) ascend =
    with_first (ascend_found f law members (AllPairs-rest (λ (x y : Member). is_before x y ≡ true) m members ascend)) (f m) refl
  where
    behind : (info other : Info) → f m ≡ Some info → Contains (filter_map f members) other → is_before info.member other.member ≡ true
    behind info other is there =
        let from = filter_map-from f members other there in
        let before : is_before m from.0 ≡ true = All-contains (λ (y : Member). is_before m y ≡ true) members from.0 (AllPairs-first (λ (x y : Member). is_before x y ≡ true) m members ascend) from.1 in
        subst (λ (k : Member). is_before k other.member ≡ true) (sym (law m info is))
        (subst (λ (k : Member). is_before m k ≡ true) (sym (law from.0 other from.2)) before)

    with_first : IsAscending (on (λ (info : Info). info.member) is_before) (filter_map f members) → (o : Option Info) → f m ≡ o → IsAscending (on (λ (info : Info). info.member) is_before) (cons_option o (filter_map f members))
    with_first rest None is = rest
    with_first rest (Some info) is =
        AllPairs-cons (λ (x y : Info). is_before x.member y.member ≡ true) info (filter_map f members)
        (All-weaker (Contains (filter_map f members)) (λ other. is_before info.member other.member ≡ true) (λ other there. behind info other is there) (filter_map f members) (All-contains_itself (filter_map f members)))
        rest

-- ---- the peers

is_other : Info → Member → Bool
is_other best member = not (is_same_member member best.member)

-- the member is one of up and acting where it is one of these in ascending order
standing : GroupLog → List Member
standing g = up_members g ++ acting_members g

pub peers-contains : (g : GroupLog) (best info : Info) → Contains (peers g best) info → Contains (heard g) info × (is_peer g best info.member ≡ true)
unfolding is_other standing
peers-contains g best info in' =
    let from = filter_map-from (info_from (heard g)) (filter (is_other best) (present_members g)) info in' in
    let found = found_of (heard g) from.0 info from.2 in
    let kept = filter-contains (is_other best) (present_members g) from.0 from.1 in
    let stands : Contains (standing g) from.0 = ascending-contains is_before (standing g) from.0 kept.0 in
    grind (arith, contains-any (is_same_member from.0) (standing g) from.0 stands (same_member_as from.0 from.0 refl))

pub contains-peers : (g : GroupLog) (best info : Info) → Contains (heard g) info → is_peer g best info.member ≡ true → Contains (peers g best) info
unfolding is_other standing
contains-peers g best info there peer =
    let parts = and_parts (list_any (is_same_member info.member) (standing g)) (is_other best info.member) peer in
    let stands = any-contains (is_same_member info.member) (standing g) parts.0 in
    let here : Contains (standing g) info.member = subst (Contains (standing g)) (sym (same_member info.member stands.0 stands.1.1)) stands.1.0 in
    contains-filter_map (info_from (heard g)) (filter (is_other best) (present_members g)) info.member info
    (contains-filter (is_other best) (present_members g) info.member (contains-ascending is_before member_order (standing g) info.member here) parts.1)
    (info_of-is (heard g) (HasDistinctMembers-last_of (counted_infos g)) info there)

peers-ascend : (g : GroupLog) (best : Info) → IsAscending (on (λ (info : Info). info.member) is_before) (peers g best)
unfolding is_other
peers-ascend g best =
    ascend_found (info_from (heard g)) (λ m info is. (found_of (heard g) m info is).of_member) (filter (is_other best) (present_members g))
    (AllPairs-filter (λ (x y : Member). is_before x y ≡ true) (is_other best) (present_members g) (IsAscending-ascending is_before member_order (up_members g ++ acting_members g)))

states-ascend : (g : GroupLog) (found : Option Info) → IsAscending (on (λ (p : PeerMissing). p.member) is_before) (option_map_or (λ (best : Info). map (peer_missing g best) (peers g best)) found [])
states-ascend g None = AllPairs-nil (λ (x y : PeerMissing). is_before x.member y.member ≡ true)
states-ascend g (Some best) =
    AllPairs-mapped (peer_missing g best) (λ (x y : Info). is_before x.member y.member ≡ true)
    (λ (x y : PeerMissing). is_before x.member y.member ≡ true) (λ x y before. before) (peers g best) (peers-ascend g best)

pub peer_states-ascend : (g : GroupLog) → IsAscending (on (λ (p : PeerMissing). p.member) is_before) (peer_states g)
peer_states-ascend g = states-ascend g (whole_best g)

-- ---- one more member

pub others-one : (all : List Member) (kept : List Info) (info : Info) (i : ℕ) (x : Member) → i < length all → x ≡ get_or all i x → (peer : Info) → Some peer ≡ (if is_same_member x info.member then None else info_from kept x) → others_heard (take (i + 1) all) kept info ≡ others_heard (take i all) kept info ++ peer ∷ []
others-one all kept info i x within item peer found =
    let other : Member → Bool = λ m. not (is_same_member m info.member) in
    grind (arith, filter-passes other all i x within item, filter_map-append (info_from kept) (filter other (take i all)) (x ∷ []))

pub others-none : (all : List Member) (kept : List Info) (info : Info) (i : ℕ) (x : Member) → i < length all → x ≡ get_or all i x → None ≡ (if is_same_member x info.member then None else info_from kept x) → others_heard (take (i + 1) all) kept info ≡ others_heard (take i all) kept info
others-none all kept info i x within item found =
    let other : Member → Bool = λ m. not (is_same_member m info.member) in
    grind (
      arith,
      filter-passes other all i x within item,
      filter-fails other all i x within item,
      filter_map-append (info_from kept) (filter other (take i all)) (x ∷ []),
      append-nil (others_heard (take i all) kept info),
    )

-- how the copy of a peer compares with the best one, whose member reported this log
abbrev pub compared : List LogEntry → Info → Info → PeerMissing
compared log best peer = record { member = peer.member; state = peer_state best log peer }

abbrev of_member : Member → Info → Bool
of_member member info = is_same_member info.member member

same_itself : (a : Member) → is_same_member a a ≡ true
same_itself a = grind (arith, nat_tests)

-- without a member of which there is an info there are fewer
pub shorter-without : (infos : List Info) (info : Info) → Contains infos info → length (without info.member infos) < length infos
shorter-without infos info there =
    let its = contains-filter (of_member info.member) infos info there (same_itself info.member) in
    let some : its.0 < length (filter (of_member info.member) infos) = its.1 in
    omega (arith, some, length-filter_both (of_member info.member) (λ x. not (of_member info.member x)) (λ x. refl) infos)

-- those that pass a test are the same without the member of one that fails it
pub passing-without : (test : Info → Bool) (infos : List Info) (info : Info) → HasDistinctMembers infos → Contains infos info → test info ≡ false
    → filter test (without info.member infos) ≡ filter test infos
passing-without test infos info distinct there fails =
    sym (filter-both (λ x. not (of_member info.member x)) test infos)
    ∙ filter-agree (λ x. not (of_member info.member x) && test x) test infos agree
  where
    agree : (x : Info) → Contains infos x → (not (of_member info.member x) && test x) ≡ test x
    agree x in_x = elim (cases_Bool (of_member info.member x)) [
      | inl its ↦ grind (arith, one_of_member infos distinct x info in_x there (same_member x.member info.member its))
      | inr other ↦ rw other refl
    ]

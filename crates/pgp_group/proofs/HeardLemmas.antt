-- The infos that are heard are of distinct members, and each is the last of its member.
use Rattle.pgp_group.proofs.Common.{◌≡◌, ◌≢◌, List, [], ◌∷◌, ◌++◌, true, false, ◌||◌, refl, ap, sym, ◌∙◌, subst, inl, inr, arith, Contains, All, cases_Bool, true≢false, nat_tests, All-contains_itself, All-weaker, AllPairs-cons, is_same_member, Member, Info, HasDistinctMembers, with_info, Contains-here, Contains-first, Contains-later, Contains-cases, Contains-nil, contains-any, AllPairs-nil, has_member, last_of_each_member, IsLastOfMember}

same_member_itself : (a : Member) → is_same_member a a ≡ true
same_member_itself a = grind (arith, nat_tests)

of_same_member : (a b : Info) → a.member ≡ b.member → is_same_member b.member a.member ≡ true
of_same_member a b same = subst (λ m. is_same_member m a.member ≡ true) same (same_member_itself a.member)

pub last_of-contains : (infos : List Info) (info : Info) → Contains (last_of_each_member infos) info → Contains infos info
last_of-contains [] info in' = in'
last_of-contains (first ∷ later) info in' = elim (cases_Bool (has_member first.member later)) [
  | inl again ↦ Contains-later first later info (last_of-contains later info (rw again at in'))
  | inr once ↦ elim (Contains-cases first (last_of_each_member later) info (rw once at in')) [
    | inl here ↦ Contains-first first later info here
    | inr further ↦ Contains-later first later info (last_of-contains later info further)
  ]
]

differs_from_later : (first : Info) (later : List Info) → has_member first.member later ≡ false → (other : Info) → Contains (last_of_each_member later) other → first.member ≢ other.member
differs_from_later first later once other in' = λ same.
    true≢false (sym (contains-any (λ (info : Info). is_same_member info.member first.member) later other
    (last_of-contains later other in') (of_same_member first other same)) ∙ once)

pub HasDistinctMembers-last_of : (infos : List Info) → HasDistinctMembers (last_of_each_member infos)
HasDistinctMembers-last_of [] = AllPairs-nil (λ a b. a.member ≢ b.member)
HasDistinctMembers-last_of (first ∷ later) = elim (cases_Bool (has_member first.member later)) [
  | inl again ↦ rw again (HasDistinctMembers-last_of later)
  | inr once ↦
      let kept : List Info = last_of_each_member later in
      let others : All (λ other. first.member ≢ other.member) kept = grind (arith, nat_tests, All-weaker, differs_from_later, All-contains_itself) in
      rw once (AllPairs-cons (λ (a b : Info). a.member ≢ b.member) first kept others (HasDistinctMembers-last_of later))
]

-- ---- each is the last of its member

pub last_of-IsLastOfMember : (infos : List Info) (info : Info) → Contains (last_of_each_member infos) info → IsLastOfMember infos info
last_of-IsLastOfMember [] info in' = absurd (Contains-nil info in')
last_of-IsLastOfMember (first ∷ later) info in' = elim (cases_Bool (has_member first.member later)) [
  | inl again ↦
      let rest = last_of-IsLastOfMember later info (rw again at in') in
      record { before = first ∷ rest.before; after = rest.after; split = λ i. first ∷ rest.split i; last = rest.last }
  | inr once ↦ elim (Contains-cases first (last_of_each_member later) info (rw once at in')) [
    | inl here ↦
        record {
          before = [];
          after = later;
          split = ap (λ (i : Info). i ∷ later) here;
          last = subst (λ (i : Info). has_member i.member later ≡ false) here once;
        }
    | inr further ↦
        let rest = last_of-IsLastOfMember later info further in
        record { before = first ∷ rest.before; after = rest.after; split = λ i. first ∷ rest.split i; last = rest.last }
  ]
]

kept_behind : (before : List Info) (info : Info) (after : List Info) → has_member info.member after ≡ false → Contains (last_of_each_member (before ++ info ∷ after)) info
kept_behind [] info after last = rw last (Contains-here info (last_of_each_member after))
kept_behind (first ∷ before) info after last = elim (cases_Bool (has_member first.member (before ++ info ∷ after))) [
  | inl again ↦ rw again (kept_behind before info after last)
  | inr once ↦ rw once (Contains-later first (last_of_each_member (before ++ info ∷ after)) info (kept_behind before info after last))
]

pub IsLastOfMember-last_of : (infos : List Info) (info : Info) → IsLastOfMember infos info → Contains (last_of_each_member infos) info
IsLastOfMember-last_of infos info is = grind (arith, kept_behind is.before info is.after is.last)

-- ---- one more info

has_member-snoc : (member : Member) (infos : List Info) (info : Info) → has_member member (infos ++ info ∷ []) ≡ (has_member member infos || is_same_member info.member member)
has_member-snoc member [] info = grind arith
has_member-snoc member (first ∷ infos) info = grind (arith, has_member-snoc member infos info)

-- the last infos of the members with one more info: those of the others, and then this one
pub last_of-snoc : (infos : List Info) (info : Info) → last_of_each_member (infos ++ info ∷ []) ≡ with_info info (last_of_each_member infos)
last_of-snoc [] info = refl
last_of-snoc (first ∷ infos) info = grind (arith, nat_tests, last_of-snoc infos info, has_member-snoc first.member infos info)

-- what the laws say
pub ruleset heard_laws = (HasDistinctMembers-last_of, last_of-IsLastOfMember, IsLastOfMember-last_of)

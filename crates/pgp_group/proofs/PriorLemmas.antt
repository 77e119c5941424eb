-- What is kept of the prior set of a group, at a look and while the log grows.
use Rattle.pgp_group.proofs.Common.{◌≡◌, ℕ, zero, suc, ◌+◌, ◌≤◌, List, [], ◌∷◌, ◌++◌, Some, true, length, length-append, refl, ap, sym, ◌∙◌, subst, inl, inr, arith, take, slice_get, Contains, take_all, take_more, take-append-le, get_or_from_slice_get, slice_get_within, enough_of, is_by_place, AnyCode, raised_at, Member, Membership, Past, map-contains, Contains-cases, Contains-here, Contains-later, Contains-nil, OsdMap, Basis, IsIndexOf, members_of, PriorIndex, held_status, Status, GroupLog, incs, les, KeepsPrior, IsAbreast, IsReckoned, basis_of, basis_with, renoted, renoted_all, has_noted, status_noted, HasEachMember, AreOfMap, past, DeviceFacts, KeptPrior, nat_tests}
use Rattle.pgp_map.specs.MapOf.{IsMapOf}
use Rattle.pgp_prior.proofs.RaisedLemmas.{length-raised_at}
use Rattle.pgp_sets.specs.StatusLaws.{held_status-is}
use Rattle.pgp_group.proofs.Lists.{any-mapped, contains-push}

-- ---- entries that are renewed

pub has-renoted : (map : OsdMap) (noted : List DeviceFacts) (osd : ℕ) → has_noted osd (renoted_all map noted) ≡ has_noted osd noted
has-renoted map noted osd = any-mapped (renoted map) _ noted

pub renoted-of_map : (map : OsdMap) (noted : List DeviceFacts) → AreOfMap map (renoted_all map noted)
renoted-of_map map noted entry there = grind (arith, map-contains (renoted map) noted entry there)

-- ---- a look

-- after the statuses, the epoch in which the group last began to serve and the current membership were taken
pub abreast-renewed : (g : GroupLog) (map : OsdMap) (kept : KeptPrior) (index : PriorIndex AnyCode) (noted : List DeviceFacts) (is : KeepsPrior g kept) (current : Membership) (since : ℕ)
    → current ≡ g.history.current → since ≡ les g → noted ≡ renoted_all map kept.noted.items
    → IsIndexOf enough_of is_by_place (record { code = is.basis.code; past = is.basis.past; current = current; les = since; status = held_status map }) index
    → IsAbreast g map kept.added index noted
abreast-renewed g map kept index noted is current since current_is since_is noted_is index_is = record {
  within = is.within;
  index_is = grind arith;
  has_each = subst (HasEachMember (is_by_place g.history.code) (take kept.added (past g))) (sym noted_is)
      (λ interval m there acts. has-renoted map kept.noted.items m.osd
      ∙ is.has_each interval m (subst (λ (l : List Past). Contains l interval) (sym is.past_are) there)
      (subst (λ (c : AnyCode). Contains (members_of (is_by_place c) interval.members.acting) m) (sym is.code_is) acts));
  of_map = subst (AreOfMap map) (sym noted_is) (renoted-of_map map kept.noted.items);
}

-- more was noted
pub abreast-noted : (g : GroupLog) (map : OsdMap) (n : ℕ) (index : PriorIndex AnyCode) (old new : List DeviceFacts) → ((osd : ℕ) → has_noted osd old ≡ true → has_noted osd new ≡ true) → (AreOfMap map old → AreOfMap map new)
    → IsAbreast g map n index old → IsAbreast g map n index new
abreast-noted g map n index old new keeps of is = record {
  within = is.within;
  index_is = is.index_is;
  has_each = λ interval m there acts. keeps m.osd (is.has_each interval m there acts);
  of_map = of is.of_map;
}

pub abreast-index : (g : GroupLog) (map : OsdMap) (n : ℕ) (old new : PriorIndex AnyCode) (noted : List DeviceFacts) → ((b : Basis AnyCode) → IsIndexOf enough_of is_by_place b old → IsIndexOf enough_of is_by_place b new)
    → IsAbreast g map n old noted → IsAbreast g map n new noted
abreast-index g map n old new noted keeps is = record {
  within = is.within;
  index_is = keeps _ is.index_is;
  has_each = is.has_each;
  of_map = is.of_map;
}

take-at : {X : Type 0} (xs : List X) (n : ℕ) (x : X) → slice_get xs n ≡ Some x → take (n + 1) xs ≡ take n xs ++ x ∷ []
take-at {X = X} xs n x at = grind (arith, take_more xs n x (slice_get_within xs n x at), get_or_from_slice_get xs n x x)

-- the next past interval was added, each acting member of which is noted
pub abreast-more : (g : GroupLog) (map : OsdMap) (n : ℕ) (old new : PriorIndex AnyCode) (noted : List DeviceFacts) (interval : Past) → slice_get (past g) n ≡ Some interval → IsAbreast g map n old noted
    → IsIndexOf enough_of is_by_place (basis_with g map (take n (past g) ++ interval ∷ [])) new
    → ((m : Member) → Contains (members_of (is_by_place g.history.code) interval.members.acting) m → has_noted m.osd noted ≡ true)
    → IsAbreast g map (n + 1) new noted
abreast-more g map n old new noted interval at is added has =
    let below = slice_get_within (past g) n interval at in
    record {
      within = omega arith;
      index_is = subst (λ (l : List Past). IsIndexOf enough_of is_by_place (basis_with g map l) new) (sym (take-at (past g) n interval at)) added;
      has_each = subst (λ (l : List Past). HasEachMember (is_by_place g.history.code) l noted) (sym (take-at (past g) n interval at))
          (λ p m there acts. elim (contains-push (take n (past g)) interval p there) [
            | inl before ↦ is.has_each p m before acts
            | inr here ↦ has m (subst (λ (q : Past). Contains (members_of (is_by_place g.history.code) q.members.acting) m) (sym here) acts)
          ]);
      of_map = is.of_map;
    }

pub reckoned : (g : GroupLog) (map : OsdMap) (index : PriorIndex AnyCode) (noted : List DeviceFacts) → IsMapOf (incs g) map → IsAbreast g map (length (past g)) index noted → IsReckoned g index
reckoned g map index noted at is =
    let whole : take (length (past g)) (past g) ≡ past g = take_all (length (past g)) (past g) (omega arith) in
    subst (λ (b : Basis AnyCode). IsIndexOf enough_of is_by_place b index)
    (λ i. record (basis_of g) { past = whole i; status = λ osd first. held_status-is (incs g) map at osd first i }) is.index_is

-- ---- what is kept

pub KeepsPrior-abreast : (g : GroupLog) (map : OsdMap) (kept : KeptPrior) → IsAbreast g map kept.added kept.index kept.noted.items → KeepsPrior g kept
KeepsPrior-abreast g map kept is = record {
  basis = basis_with g map (take kept.added (past g));
  code_is = refl;
  within = is.within;
  past_are = refl;
  since = omega arith;
  index_is = is.index_is;
  has_each = is.has_each;
  gives_each = grind arith;
}

-- nothing is reckoned with yet
pub KeepsPrior-begun : (g : GroupLog) (kept : KeptPrior) (current : Membership) (since : ℕ) (code : AnyCode) (status : ℕ → ℕ → Status) → code ≡ g.history.code → kept.added ≡ 0 → since ≡ 0
    → IsIndexOf enough_of is_by_place (record { code = code; past = []; current = current; les = since; status = status }) kept.index → KeepsPrior g kept
KeepsPrior-begun g kept current since code status code_is none never index_is = record {
  basis = record { code = code; past = []; current = current; les = since; status = status };
  code_is = code_is;
  within = omega arith;
  past_are = ap (λ n. take n (past g)) (sym none);
  since = omega arith;
  index_is = index_is;
  has_each = λ interval m there acts. absurd (Contains-nil interval there);
  gives_each = λ interval m entry there acts noted same. absurd (Contains-nil interval there);
}

-- past intervals come behind the others, and the group may have begun to serve again
pub KeepsPrior-grown : (g after : GroupLog) (kept : KeptPrior) (later : List Past) → after.history.code ≡ g.history.code → past after ≡ past g ++ later → les g ≤ les after → KeepsPrior g kept → KeepsPrior after kept
KeepsPrior-grown g after kept later code grown rises is =
    let within = is.within in
    let since = is.since in
    let long : length (past after) ≡ length (past g) + length later = ap length grown ∙ length-append (past g) later in
    record {
      basis = is.basis;
      code_is = is.code_is ∙ sym code;
      within = omega arith;
      past_are = is.past_are ∙ sym (ap (take kept.added) grown ∙ take-append-le kept.added (past g) later within);
      since = omega arith;
      index_is = is.index_is;
      has_each = is.has_each;
      gives_each = is.gives_each;
    }

-- ---- a flag rises

take-raised : (n place : ℕ) (past : List Past) → take n (raised_at place past) ≡ raised_at place (take n past)
take-raised zero place past = refl
take-raised (suc n) place [] = refl
take-raised (suc n) zero (p ∷ past) = refl
take-raised (suc n) (suc place) (p ∷ past) = ap (λ (l : List Past). p ∷ l) (take-raised n place past)

-- the interval was there before, perhaps without the flag
record WasThere (past : List Past) (interval : Past) : Type 0 where
  was : Past
  there : Contains past was
  members : was.members ≡ interval.members
  first : was.first ≡ interval.first

was_there : (place : ℕ) (past : List Past) (interval : Past) → Contains (raised_at place past) interval → WasThere past interval
was_there place [] interval there = absurd (Contains-nil interval there)
was_there zero (p ∷ past) interval there = grind (arith, Contains-cases (record p { rw = true }) past interval there, Contains-here p past)
was_there (suc place) (p ∷ past) interval there = elim (Contains-cases p (raised_at place past) interval there) [
  | inl here ↦ record { was = p; there = Contains-here p past; members = ap (λ (q : Past). q.members) here; first = ap (λ (q : Past). q.first) here }
  | inr later ↦ grind (arith, nat_tests, Contains-later, was_there place past interval later)
]

-- the group may have gone read-write in one of its past intervals after all, and the index has taken that
pub KeepsPrior-raised : (g after : GroupLog) (kept : KeptPrior) (index : PriorIndex AnyCode) (place : ℕ) → after.history.code ≡ g.history.code → past after ≡ raised_at place (past g) → les g ≤ les after
    → ((b : Basis AnyCode) → IsIndexOf enough_of is_by_place b kept.index → IsIndexOf enough_of is_by_place (record b { past = raised_at place b.past }) index)
    → KeepsPrior g kept → KeepsPrior after (record kept { index = index })
KeepsPrior-raised g after kept index place code raised rises takes is =
    let b = is.basis in
    let within = is.within in
    let since = is.since in
    let long : length (past after) ≡ length (past g) = ap length raised ∙ length-raised_at place (past g) in
    record {
      basis = record b { past = raised_at place b.past };
      code_is = is.code_is ∙ sym code;
      within = omega arith;
      past_are = ap (raised_at place) is.past_are ∙ sym (ap (take kept.added) raised ∙ take-raised kept.added place (past g));
      since = omega arith;
      index_is = takes b is.index_is;
      has_each = λ interval m there acts.
          let before = was_there place b.past interval there in
          is.has_each before.was m before.there
          (subst (λ (members : Membership). Contains (members_of (is_by_place b.code) members.acting) m) (sym before.members) acts);
      gives_each = λ interval m entry there acts noted same.
          let before = was_there place b.past interval there in
          subst (λ first. b.status m.osd first ≡ status_noted entry first) before.first
          (is.gives_each before.was m entry before.there
          (subst (λ (members : Membership). Contains (members_of (is_by_place b.code) members.acting) m) (sym before.members) acts) noted same);
    }

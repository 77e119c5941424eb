-- The index of a prior set, by statuses that tell the same, and as the entries of its devices are renewed one after another.
use Rattle.pgp_group.proofs.Common.{arith, not, nat_lt, ◌≡◌, ℕ, ◌+◌, ◌<◌, List, [], ◌∷◌, Bool, true, false, ◌||◌, nat_eq, length, refl, ap, sym, ◌∙◌, inl, inr, eqb-true, eq-eqb, take, get_or, if◌then◌else◌, or-false, or-true, cases_Bool, take_more, take_all, list_any-append, Past, OsdMap, is_no_worse, is_no_better, IsChange, held_status, Status, Up, renoted, has_noted, status_noted, status_up, allows_turn, HasEachMember, GivesEach, DeviceFacts, Some, subst, Contains, enough_of, is_by_place, enough_of-mono, AnyCode, Member, contains-map, Basis, IsIndexOf, members_of, PriorIndex, blocks-same, nat_tests}
use Rattle.pgp_group.specs.declared.device_facts.EachUp.{EachUp}
use Rattle.pgp_prior.specs.Changes.{is_same_or_gone}
use Rattle.pgp_sets.specs.Status.{status_by}
use Rattle.pgp_sets.specs.declared.status.Status.TheVariants.{Gone, Lost, Down}
use Rattle.pgp_prior.specs.kept.JudgedInterval.{past_of}

-- both tell the same of each acting member of these intervals
abbrev pub AgreeOnEach : Bool → (ℕ → ℕ → Status) → (ℕ → ℕ → Status) → List Past → Type 0
AgreeOnEach by_place old new past =
    (interval : Past) (member : Member) → Contains past interval → Contains (members_of by_place interval.members.acting) member
    → old member.osd interval.first ≡ new member.osd interval.first

pub index-agree : (b : Basis AnyCode) (status : ℕ → ℕ → Status) (index : PriorIndex AnyCode) → IsIndexOf enough_of is_by_place b index
    → AgreeOnEach (is_by_place b.code) b.status status b.past → IsIndexOf enough_of is_by_place (record b { status = status }) index
index-agree b status index is agree = record {
  code_is = is.code_is;
  past_are = is.past_are;
  each_kept = λ kept in'.
      let was = is.each_kept kept in' in
      let there : Contains b.past kept.past = subst (λ (l : List Past). Contains l kept.past) is.past_are (contains-map past_of index.past.items kept in') in
      record {
        statuses_are = λ m acts. was.statuses_are m acts ∙ ap Some (agree kept.past m there acts);
        blocks_is = grind (arith, nat_tests, blocks-same, enough_of-mono);
      };
  places_are = is.places_are;
  current_is = is.current_is;
  les_is = is.les_is;
}

-- ---- any change of a device is one to up, and then one from up

-- the statuses, where the device is up
abbrev pub raised : ℕ → (ℕ → ℕ → Status) → ℕ → ℕ → Status
raised osd status q first = if nat_eq q osd then Up else status q first

raised-it : (osd : ℕ) (status : ℕ → ℕ → Status) (first : ℕ) → raised osd status osd first ≡ Up
raised-it osd status first = ap (λ (b : Bool). if b then Up else status osd first) (eq-eqb osd osd refl)

raised-other : (osd q : ℕ) (status : ℕ → ℕ → Status) (first : ℕ) → (q ≡ osd → ⊥) → raised osd status q first ≡ status q first
raised-other osd q status first apart = grind arith

pub to_up : (old : Status) → is_no_worse old Up ≡ true
to_up old = grind arith

from_up : (new : Status) → is_no_better Up new ≡ true
from_up new = grind arith

module _ (by_place : Bool) (osd : ℕ) (told old new : ℕ → ℕ → Status) (past : List Past) (change : IsChange (λ _ _. true) by_place osd told old new past) where
  pub change-up : (all : EachUp) → IsChange is_no_worse by_place osd (status_up all) old (raised osd old) past
  change-up all interval there = grind (arith, nat_tests, raised-it, to_up, raised-other)

  pub change-from_up : IsChange is_no_better by_place osd told (raised osd old) new past
  change-from_up interval there =
      let is = change interval there in
      grind (arith, raised-it osd old interval.first, from_up (new osd interval.first))

-- ---- what the map said and says of a device allows its statuses to turn as they do, and to stay

same_allowed : (now was gone again lost : Bool) (status : Status)
    → (if now then is_no_worse else (if was then is_no_better else (if gone then is_same_or_gone else (if again then (λ _ _. true) else (if lost then is_no_better else is_no_worse))))) status status ≡ true
same_allowed true was gone again lost status = grind arith
same_allowed false true gone again lost status = grind arith
same_allowed false false true again lost status = grind arith
same_allowed false false false true lost status = refl
same_allowed false false false false true status = grind arith
same_allowed false false false false false status = grind arith

allows-same : (before after : DeviceFacts) (status : Status) → allows_turn before after status status ≡ true
allows-same before after = same_allowed after.up before.up (not after.there) (not before.there) (nat_lt after.lost_at before.lost_at)

turn-allowed : (before after : DeviceFacts) (first : ℕ) → allows_turn before after (status_noted before first) (status_noted after first) ≡ true
turn-allowed before after first = turned before.up after.up before.there after.there
  where
    gone : (lost : Bool) → is_same_or_gone (if lost then Lost else Down) Gone ≡ true
    gone true = refl
    gone false = refl

    down : (was now : ℕ) → (if nat_lt now was then is_no_better else is_no_worse) (if nat_lt first was then Lost else Down) (if nat_lt first now then Lost else Down) ≡ true
    down was now = grind (arith, nat_tests)

    turned : (was now was_there there : Bool) → allows_turn (record before { up = was; there = was_there }) (record after { up = now; there = there })
        (status_by was was_there before.lost_at first) (status_by now there after.lost_at first) ≡ true
    turned was true was_there there = to_up (status_by was was_there before.lost_at first)
    turned true false was_there there = from_up (status_by false there after.lost_at first)
    turned false false false false = refl
    turned false false true false = gone (nat_lt first before.lost_at)
    turned false false false true = refl
    turned false false true true = down before.lost_at after.lost_at

-- ---- the devices of the entries so far have the statuses of the map

abbrev pub taken : OsdMap → (ℕ → ℕ → Status) → Bool → ℕ → ℕ → Status
taken map status renewed q first = if renewed then held_status map q first else status q first

abbrev pub partly : OsdMap → List DeviceFacts → (ℕ → ℕ → Status) → ℕ → ℕ → Status
partly map noted status q first = taken map status (has_noted q noted) q first

has-more : (noted : List DeviceFacts) (i : ℕ) (entry : DeviceFacts) (q : ℕ) → i < length noted → entry ≡ get_or noted i entry
    → has_noted q (take (i + 1) noted) ≡ (has_noted q (take i noted) || nat_eq entry.osd q)
has-more noted i entry q within item =
    let test : DeviceFacts → Bool = λ e. nat_eq e.osd q in
    grind (arith, take_more noted i entry within, list_any-append test (take i noted) (entry ∷ []), or-false (nat_eq entry.osd q))

module _ (map : OsdMap) (noted : List DeviceFacts) (i : ℕ) (entry : DeviceFacts) (within : i < length noted) (item : entry ≡ get_or noted i entry) (status : ℕ → ℕ → Status) where
  -- the entry's device has the status of the map, and the others stay
  partly-it : (q first : ℕ) → entry.osd ≡ q → partly map (take (i + 1) noted) status q first ≡ held_status map q first
  partly-it q first same =
      ap (λ (b : Bool). taken map status b q first) (has-more noted i entry q within item ∙ ap (λ b. has_noted q (take i noted) || b) (eq-eqb entry.osd q same) ∙ or-true (has_noted q (take i noted)))

  partly-other : (q first : ℕ) → (entry.osd ≡ q → ⊥) → partly map (take (i + 1) noted) status q first ≡ partly map (take i noted) status q first
  partly-other q first apart = grind (arith, has-more noted i entry q within item, or-false (has_noted q (take i noted)))

  -- where the device's entry may say something else than the map
  pub partly-change : (by_place : Bool) (past : List Past) → GivesEach by_place status past noted
      → IsChange (allows_turn entry (renoted map entry)) by_place entry.osd (held_status map) (partly map (take i noted) status) (partly map (take (i + 1) noted) status) past
  partly-change by_place past gives interval there = record {
    of_it = λ m acts same. partly-it entry.osd interval.first refl;
    allowed_of_it = λ m acts same.
        let first = interval.first in
        let was : status entry.osd first ≡ status_noted entry first = ap (λ q. status q first) (sym same) ∙ gives interval m entry there acts (i, within, sym item) (sym same) in
        subst (λ (s : Status). allows_turn entry (renoted map entry) (partly map (take i noted) status entry.osd first) s ≡ true) (sym (partly-it entry.osd first refl))
        (allowed (has_noted entry.osd (take i noted)) first
        (subst (λ (s : Status). allows_turn entry (renoted map entry) s (held_status map entry.osd first) ≡ true) (sym was) (turn-allowed entry (renoted map entry) first)));
    of_others = λ m acts apart. partly-other m.osd interval.first (λ same. apart (sym same));
  }
    where
      allowed : (b : Bool) (first : ℕ) → allows_turn entry (renoted map entry) (status entry.osd first) (held_status map entry.osd first) ≡ true
          → allows_turn entry (renoted map entry) (taken map status b entry.osd first) (held_status map entry.osd first) ≡ true
      allowed true first is = allows-same entry (renoted map entry) (held_status map entry.osd first)
      allowed false first is = is

  -- where it says the same
  pub partly-same : (by_place : Bool) (past : List Past) → renoted map entry ≡ entry → GivesEach by_place status past noted
      → AgreeOnEach by_place (partly map (take i noted) status) (partly map (take (i + 1) noted) status) past
  partly-same by_place past as_before gives interval m there acts = elim (cases_Bool (nat_eq entry.osd m.osd)) [
    | inl hit ↦
        let same : entry.osd ≡ m.osd = eqb-true entry.osd m.osd hit in
        let was : status m.osd interval.first ≡ held_status map m.osd interval.first =
        gives interval m entry there acts (i, within, sym item) same
        ∙ ap (λ (e : DeviceFacts). status_noted e interval.first) (sym as_before)
        ∙ ap (λ q. held_status map q interval.first) same in
        known (has_noted m.osd (take i noted)) was ∙ sym (partly-it m.osd interval.first same)
    | inr miss ↦ sym (partly-other m.osd interval.first (λ same. differ miss (eq-eqb entry.osd m.osd same)))
  ]
    where
      known : (b : Bool) → status m.osd interval.first ≡ held_status map m.osd interval.first → taken map status b m.osd interval.first ≡ held_status map m.osd interval.first
      known true was = refl
      known false was = was

      differ : {b : Bool} → b ≡ false → b ≡ true → ⊥
      differ fails passes = cc

-- all entries are renewed, and each member has one
pub partly-all : (map : OsdMap) (noted : List DeviceFacts) (i : ℕ) (status : ℕ → ℕ → Status) (by_place : Bool) (past : List Past) → length noted ≡ i → HasEachMember by_place past noted
    → AgreeOnEach by_place (partly map (take i noted) status) (held_status map) past
partly-all map noted i status by_place past done has interval m there acts =
    ap (λ (b : Bool). taken map status b m.osd interval.first)
    (ap (has_noted m.osd) (take_all i noted (omega (arith, done))) ∙ has interval m there acts)

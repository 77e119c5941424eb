-- An interval that blocks did so before, where no member of it gets worse.
use Rattle.std.proofs.Common.{arith, ◌≡◌, ℕ, List, Bool, true, false, not, ◌&&◌, nat_lt, map, sym, ap, ◌∙◌, subst}
use Rattle.std.specs.List.{Contains}
use Rattle.std.proofs.lemmas.Bool.{true≢false, false_from_ne_true}
use Rattle.std.proofs.lemmas.Grind.{common_steps}
use Rattle.pgp_ids.specs.SlotSet.{IsSlotSet, is_within}
use Rattle.pgp_ids.specs.declared.member.Member.{Member}
use Rattle.pgp_ids.specs.declared.past.Past.{Past}
use Rattle.pgp_lists.proofs.Bools.{same_tests}
use Rattle.pgp_lists.proofs.Members.{filter-contains, contains-filter, map-contains, contains-map, any-contains, contains-any}
use Rattle.pgp_lists.proofs.Ordered.{nat_order, ascending-contains, contains-ascending}
use Rattle.pgp_sets.specs.declared.status.Status.{Status}
use Rattle.pgp_prior.specs.Members.{members_of, member_slots}
use Rattle.pgp_prior.specs.Blocks.{is_settled, is_down, acting_where, settled_slots, has_down, blocks}
use Rattle.pgp_prior.specs.Better.{is_no_worse}
use Rattle.pgp_prior.specs.Changes.{is_no_better, IsNoBetter}
use Rattle.pgp_prior.specs.Prior.{is_group_down}
use Rattle.pgp_prior.proofs.SlotLemmas.{IsSlotSet-slots_of, is_within-each}

-- what was settled still is, and what is down was so
pub record Relieves (old new : Status) : Type 0 where
  pub settled : is_settled old ≡ true → is_settled new ≡ true
  pub down : is_down new ≡ true → is_down old ≡ true

pub no_worse-relieves : (old new : Status) → is_no_worse old new ≡ true → Relieves old new
no_worse-relieves old new better = record { settled = λ settled. grind arith; down = λ down. grind arith }

pub no_better-relieves : (old new : Status) → is_no_better old new ≡ true → Relieves new old
no_better-relieves old new worse = record { settled = λ settled. grind arith; down = λ down. grind arith }

pub same-relieves : (old new : Status) → old ≡ new → Relieves old new
same-relieves old new same = record { settled = λ settled. ap is_settled (sym same) ∙ settled; down = λ down. ap is_down same ∙ down }

-- what blocks did so before, where what was enough still is and what is down was so
blocks_by : (late was now down_was down_now : Bool) → (was ≡ true → now ≡ true) → (down_now ≡ true → down_was ≡ true) → late && not now && down_now ≡ true → late && not was && down_was ≡ true
blocks_by late was now down_was down_now more down blocking = grind (arith, more, down)

-- each acting member of the interval is relieved
abbrev pub EachRelieved : Bool → (ℕ → ℕ → Status) → (ℕ → ℕ → Status) → Past → Type 0
EachRelieved by_place old new p = (member : Member) → Contains (members_of by_place p.members.acting) member → Relieves (old member.osd p.first) (new member.osd p.first)

module _ (by_place : Bool) (old new : ℕ → ℕ → Status) (p : Past) (relieved : EachRelieved by_place old new p) where
  -- the slots that were settled still are
  settled_within : is_within (settled_slots by_place old p) (settled_slots by_place new p) ≡ true
  settled_within =
      let slot : Member → ℕ = λ m. m.slot in
      let members : List Member = members_of by_place p.members.acting in
      let was : List Member = acting_where is_settled by_place old p in
      let is : List Member = acting_where is_settled by_place new p in
      is_within-each (member_slots was) (member_slots is) (λ k in'.
      let found = map-contains slot was k (ascending-contains nat_lt (map slot was) k in') in
      let member : Member = found.0 in
      let kept = filter-contains (λ m. is_settled (old m.osd p.first)) members member found.1.0 in
      let still : Contains is member =
      contains-filter (λ m. is_settled (new m.osd p.first)) members member kept.0 ((relieved member kept.0).settled kept.1) in
      contains-ascending nat_lt nat_order (map slot is) k (subst (Contains (map slot is)) found.1.1 (contains-map slot is member still)))

  has_down-before : has_down by_place new p ≡ true → has_down by_place old p ≡ true
  has_down-before down =
      let found = any-contains (λ m. is_down (new m.osd p.first)) (members_of by_place p.members.acting) down in
      grind (arith, common_steps, (relieved found.0 found.1.0).down found.1.1)

  module _ (enough : List ℕ → Bool) (monotone : (a b : List ℕ) → IsSlotSet a → IsSlotSet b → is_within a b ≡ true → enough a ≡ true → enough b ≡ true) (les : ℕ) where
    pub blocks-before : blocks enough by_place new les p ≡ true → blocks enough by_place old les p ≡ true
    blocks-before blocking =
        let was : List ℕ = settled_slots by_place old p in
        let now : List ℕ = settled_slots by_place new p in
        let more : enough was ≡ true → enough now ≡ true = monotone was now (IsSlotSet-slots_of (acting_where is_settled by_place old p)) (IsSlotSet-slots_of (acting_where is_settled by_place new p)) settled_within in
        blocks_by _ _ _ _ _ more has_down-before blocking

module _ (by_place : Bool) (enough : List ℕ → Bool) (monotone : (a b : List ℕ) → IsSlotSet a → IsSlotSet b → is_within a b ≡ true → enough a ≡ true → enough b ≡ true) (les : ℕ) where
  -- statuses that tell the same of each member
  pub blocks-same : (old new : ℕ → ℕ → Status) (p : Past) → ((member : Member) → Contains (members_of by_place p.members.acting) member → old member.osd p.first ≡ new member.osd p.first) → blocks enough by_place old les p ≡ blocks enough by_place new les p
  blocks-same old new p same =
      same_tests _ _
      (blocks-before by_place new old p (λ m in'. same-relieves _ _ (sym (same m in'))) enough monotone les)
      (blocks-before by_place old new p (λ m in'. same-relieves _ _ (same m in')) enough monotone les)

  pub not_down-relieved : (old new : ℕ → ℕ → Status) (past : List Past) → ((p : Past) → Contains past p → EachRelieved by_place old new p) → is_group_down enough by_place old les past ≡ false → is_group_down enough by_place new les past ≡ false
  not_down-relieved old new past relieved up = false_from_ne_true _ (λ down.
      let found = any-contains (blocks enough by_place new les) past down in
      let was = blocks-before by_place old new found.0 (relieved found.0 found.1.0) enough monotone les found.1.1 in
      true≢false (sym (contains-any (blocks enough by_place old les) past found.0 found.1.0 was) ∙ up))

  pub down-worse : (old new : ℕ → ℕ → Status) (past : List Past) → IsNoBetter old new → is_group_down enough by_place old les past ≡ true → is_group_down enough by_place new les past ≡ true
  down-worse old new past worse down =
      let found = any-contains (blocks enough by_place old les) past down in
      let still = blocks-before by_place new old found.0 (λ m in'. no_better-relieves _ _ (worse m.osd found.0.first)) enough monotone les found.1.1 in
      contains-any (blocks enough by_place new les) past found.0 found.1.0 still

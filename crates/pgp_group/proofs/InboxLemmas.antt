-- What an inbox keeps, as more comes and as it is looked at.
use Rattle.pgp_group.proofs.Common.{◌≡◌, ℕ, ◌≤◌, List, [], ◌∷◌, ◌++◌, false, nat_lt, length, take, drop, length-append, append-nil, arith, All, All-append, All-contains, All-take, All-weaker, Contains, or_parts, nat_tests, take_all, take-append-le, ◌∙◌}
use Rattle.pgp_group.specs.kept.InboxOf.{Arrivals, IsInboxOf, with_arrival}

-- these items more, each of which was sent in this epoch or before, where none came ahead
pub record Grows {X : Type 0} (stamp : X → ℕ) (more : List X) (now : ℕ) (old kept : Arrivals X) : Type 0 where
  pub all_are : kept.all ≡ old.all ++ more
  pub seen_is : kept.seen ≡ old.seen
  pub sent : kept.ahead ≡ false → (old.ahead ≡ false) × All (λ x. stamp x ≤ now) more

pub Grows-none : {X : Type 0} (stamp : X → ℕ) (now : ℕ) (inbox : Arrivals X) → Grows stamp [] now inbox inbox
Grows-none stamp now inbox = grind (arith, append-nil inbox.all)

pub Grows-one : {X : Type 0} (stamp : X → ℕ) (x : X) (at now : ℕ) (old kept : Arrivals X) → at ≡ now → kept ≡ with_arrival x at (stamp x) old → Grows stamp (x ∷ []) now old kept
Grows-one stamp x at now old kept here is = grind (arith, nat_tests, or_parts old.ahead (nat_lt at (stamp x)))

module _ {X : Type 0} {stamp : X → ℕ} {items : List X} {now : ℕ} {inbox : Arrivals X} (is : IsInboxOf stamp items now inbox) where
  pub IsInboxOf-grown : {more after : List X} {later : ℕ} {kept : Arrivals X} → after ≡ items ++ more → now ≤ later → Grows stamp more later inbox kept → IsInboxOf stamp after later kept
  IsInboxOf-grown {more = more} {later = later} told rises grows =
      grind (arith, nat_tests, length-append items more, All-append (λ x. stamp x ≤ later) items more, All-weaker (λ x. stamp x ≤ now) (λ x. stamp x ≤ later), grows.sent)

  -- what was looked at stays
  pub seen-grown : {more after : List X} {later : ℕ} {kept : Arrivals X} → after ≡ items ++ more → Grows stamp more later inbox kept → take kept.seen after ≡ take inbox.seen items
  seen-grown {more = more} told grows = (λ i. take (grows.seen_is i) (told i)) ∙ take-append-le inbox.seen items more is.seen_within

  -- and was sent, where none came ahead
  pub seen-sent : inbox.ahead ≡ false → (x : X) → Contains (take inbox.seen items) x → stamp x ≤ now
  seen-sent settled x =
      All-contains (λ x. stamp x ≤ now) (take inbox.seen items) x (All-take (λ x. stamp x ≤ now) inbox.seen items (is.each_sent settled))

  -- the items that weren't looked at
  pub unseen-is : {xs : List X} → (inbox.seen ≤ length inbox.all → xs ≡ drop inbox.seen inbox.all) → xs ≡ drop inbox.seen items
  unseen-is unseen = grind arith

  -- those that were, once all are
  pub seen-all : take (length inbox.all) items ≡ items
  seen-all = grind (arith, take_all)

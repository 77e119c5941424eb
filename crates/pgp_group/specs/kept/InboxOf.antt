-- What is kept of all that came of one kind (this project's own choice).
use Rattle.std.specs.Prelude.{◌≡◌, ℕ, ◌≤◌, List, [], ◌∷◌, ◌++◌, Bool, false, ◌||◌, nat_lt, length, All}

-- all items in the order in which they came, how many of them were looked at, and whether one came ahead: before the epoch
-- in which it was sent
pub record Arrivals (T : Type 0) : Type 0 where
  pub all : List T
  pub seen : ℕ
  pub ahead : Bool

-- with one item more, which came at this epoch and was sent in that one
abbrev pub with_arrival : {T : Type 0} → T → ℕ → ℕ → Arrivals T → Arrivals T
with_arrival item at stamp inbox =
    record { all = inbox.all ++ item ∷ []; seen = inbox.seen; ahead = inbox.ahead || nat_lt at stamp }

-- the inbox has these items, and no more were looked at than there are. Where none came ahead of its epoch, each was sent in
-- this epoch or before
pub record IsInboxOf {T : Type 0} (stamp : T → ℕ) (items : List T) (now : ℕ) (inbox : Arrivals T) : Type 0 where
  pub all_are : inbox.all ≡ items
  pub seen_within : inbox.seen ≤ length items
  pub each_sent : inbox.ahead ≡ false → All (λ item. stamp item ≤ now) items

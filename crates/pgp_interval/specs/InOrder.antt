-- Past intervals in ascending order, none of which overlaps another.
use Rattle.std.specs.Prelude.{ℕ, ◌<◌, ◌≤◌, List, Bool, ◌&&◌, nat_le, All, AllPairs}
use Rattle.pgp_ids.specs.declared.past.Past.{Past}

pub record AreInOrder (past : List Past) : Type 0 where
  pub ordered : All (λ p. p.first ≤ p.last) past
  pub apart : AllPairs (λ p q. p.last < q.first) past

-- the epoch is one of the interval's
abbrev pub holds_epoch : ℕ → Past → Bool
holds_epoch epoch p = nat_le p.first epoch && nat_le epoch p.last

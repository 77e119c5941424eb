-- The rule over the two copies, and what a step sees.
use Rattle.std.specs.Prelude.{◌≡◌, ℕ, List, Option, Some}
use mathlib.Core.Option.{some}
use lib.ListN.{get_elem?}
use Rattle.pgp_feed.specs.declared.receipt.Receipt.{Receipt}
use Rattle.pgp_feed.specs.declared.store.Store.{Store}
use Rattle.pgp_feed.specs.Receipts.{entries_of, Holds}
use Rattle.pgp_feed.specs.Stores.{content_of}

-- the entries are those that the told receipt names
abbrev pub IsTold : Store → Type 0
IsTold s = (content_of s).entries ≡ entries_of s.told

-- so are the published ones, and each view is a front of them
pub record IsOneLog (s : Store) (views : List (Option Receipt)) : Type 0 where
  pub told : IsTold s
  pub fronts : (seat : ℕ) (r : Receipt) → get_elem? views seat ≡ some (Some r) → Holds s.told r

-- what is seen afterwards is what y tells; it holds what was seen before
pub record SeesTold (v : Option Receipt) (x y : Store) (w : Option Receipt) : Type 0 where
  pub told : IsTold y
  pub later : (r : Receipt) → v ≡ Some r → Holds y.told r
  pub seen : w ≡ Some y.told

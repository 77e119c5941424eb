-- What one try of a placement comes to.
use Rattle.std.specs.Prelude.{ℕ, ℤ, pos, negsuc, ◌+◌, List, Option, Some, None, nat_le, Bool, if◌then◌else◌}
use Rattle.pgp_crush.specs.declared.descent.Rank.{Rank}
use Rattle.pgp_crush.specs.declared.descent.Rank.TheVariants.{Same}
use Rattle.pgp_crush.specs.declared.descent.Descent.{Descent}
use Rattle.pgp_crush.specs.declared.descent.Descent.TheVariants as descent_is
use Rattle.pgp_crush.specs.declared.candidate.Candidate.{Candidate}
use Rattle.pgp_crush.specs.declared.candidate.Candidate.TheVariants.{Early, Unfit, Fit}
use Rattle.pgp_crush.specs.Bucket.{Bucket, bucket_at, root_of, is_device}
use Rattle.pgp_crush.specs.Descent.{descent}
use Rattle.pgp_crush.specs.Out.{is_in}

-- what every try of a placement is given: the tree, which devices are in, the input, and the type of the items sought
pub record Input : Type 0 where
  pub tree : List Bucket
  pub is_in : ℕ → Bool
  pub x : ℕ
  pub kind : ℕ

abbrev pub input_of : List Bucket → List ℕ → ℕ → ℕ → Input
input_of tree weights x kind = record { tree = tree; is_in = is_in weights x; x = x; kind = kind }

-- the number of the device that an item is
abbrev pub device_of : ℤ → Option ℕ
device_of (pos number) = if nat_le number 4095 then Some number else None
device_of (negsuc n) = None

-- the device to which a way down led
abbrev pub device_found : Descent → Option ℕ
device_found (descent_is.Found s) = device_of s.item
device_found descent_is.Early = None
device_found descent_is.Empty = None

-- the device that an item is, or to which one way down from it leads
unfoldable pub leaf_of : List Bucket → ℕ → ℕ → ℤ → Option ℕ
leaf_of tree x r item =
    if is_device item then device_of item else device_found (descent tree x (Same r) 0 (bucket_at tree item))

-- an item with its leaf, if that is there and in
abbrev pub fit_with : Input → ℤ → Option ℕ → Candidate
fit_with i item None = Unfit
fit_with i item (Some leaf) = if i.is_in leaf then Fit (record { item = item; leaf = leaf }) else Unfit

-- What a way down from the root comes to. Below the item each bucket chooses with the number with which the item was
-- chosen, raised by `more`.
abbrev pub candidate_at : Input → ℕ → Descent → Candidate
candidate_at i more descent_is.Early = Early
candidate_at i more descent_is.Empty = Unfit
candidate_at i more (descent_is.Found s) = fit_with i s.item (leaf_of i.tree i.x (s.r + more) s.item)

-- what one try comes to
unfoldable pub candidate : Input → Rank → ℕ → Candidate
candidate i rank more = candidate_at i more (descent i.tree i.x rank i.kind (root_of i.tree))

-- The placement of a pool's group on a tree, if there is one.
use Rattle.std.specs.Prelude.{◌≡◌, ℕ, List, [], replicate, Bool, true, false, Option, Some, None, if◌then◌else◌}
use Rattle.pgp_crush.specs.declared.rule.Rule.{Rule}
use Rattle.pgp_crush.specs.Bucket.{Bucket}
use Rattle.pgp_crush.specs.Candidate.{Input, input_of}
use Rattle.pgp_crush.specs.Cells.{indep}
use Rattle.pgp_crush.specs.FirstN.{first_n}
use Rattle.pgp_crush.specs.Indep.{IsIndep}

-- the places on a tree: those of an erasure pool are read off a table, and a replicated pool lists what its replicas take
abbrev pub IsPlacedBy : Bool → Input → ℕ → List (Option ℕ) → Type 0
IsPlacedBy true i n places = IsIndep i n places
IsPlacedBy false i n places = places ≡ first_n i n

-- the places of a group; without a tree an erasure pool has n empty ones, and a replicated pool none
abbrev pub IsPlacement : Option (List Bucket) → Rule → List ℕ → ℕ → ℕ → List (Option ℕ) → Type 0
IsPlacement None rule weights x n places = places ≡ (if rule.indep then replicate n None else [])
IsPlacement (Some tree) rule weights x n places = IsPlacedBy rule.indep (input_of tree weights x rule.leaf) n places

-- what computes them: n places of an erasure pool, or at most n devices of a replicated one
abbrev pub placement : Option (List Bucket) → Rule → List ℕ → ℕ → ℕ → List (Option ℕ)
placement None rule weights x n = if rule.indep then replicate n None else []
placement (Some tree) rule weights x n =
    if rule.indep then indep (input_of tree weights x rule.leaf) n else first_n (input_of tree weights x rule.leaf) n

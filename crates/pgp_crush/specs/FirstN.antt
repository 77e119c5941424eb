-- The placement of a replicated pool: for each replica in turn the first try that is no failure.
use Rattle.std.specs.Prelude.{ℕ, zero, suc, ◌+◌, List, Bool, true, false, not, Option, Some, None}
use Rattle.std.specs.Option.{option_and_then}
use Rattle.pgp_crush.specs.declared.descent.Rank.TheVariants.{Same}
use Rattle.pgp_crush.specs.declared.candidate.Pick.{Pick}
use Rattle.pgp_crush.specs.declared.candidate.Candidate.{Candidate}
use Rattle.pgp_crush.specs.declared.candidate.Candidate.TheVariants.{Early, Unfit, Fit}
use Rattle.pgp_crush.specs.Least.{least_below}
use Rattle.pgp_crush.specs.Picks.{Picks, no_picks, with_pick, is_taken}
use Rattle.pgp_crush.specs.Candidate.{Input, candidate}

-- how many tries there are: 0 to 50
abbrev pub try_limit : ℕ
try_limit = 51

-- the try is a failure, after which the next one follows
abbrev pub is_failure : Picks → Candidate → Bool
is_failure taken Early = false
is_failure taken Unfit = true
is_failure taken (Fit pick) = is_taken taken pick

-- what is taken by a try that is no failure: nothing if it came to a device too early
abbrev pub taken_by : Candidate → Option Pick
taken_by Early = None
taken_by Unfit = None
taken_by (Fit pick) = Some pick

-- try f of replica rep: every bucket chooses with their sum
abbrev pub try_of : Input → ℕ → ℕ → Candidate
try_of i rep f = candidate i (Same (rep + f)) 0

-- try f of replica rep is no failure
abbrev pub is_good_try : Input → Picks → ℕ → ℕ → Bool
is_good_try i taken rep f = not (is_failure taken (try_of i rep f))

-- what replica rep takes, where these are taken already
unfoldable pub pick_of : Input → Picks → ℕ → Option Pick
pick_of i taken rep = option_and_then (λ f. taken_by (try_of i rep f)) (least_below (is_good_try i taken rep) try_limit)

-- what the first replicas take
unfoldable pub first_picks : Input → ℕ → Picks
first_picks i zero = no_picks
first_picks i (suc rep) = with_pick (first_picks i rep) (pick_of i (first_picks i rep) rep)

-- the leaves of n replicas
abbrev pub first_n : Input → ℕ → List (Option ℕ)
first_n i n = (first_picks i n).leaves

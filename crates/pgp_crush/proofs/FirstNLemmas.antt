-- First-n, try by try and replica by replica.
use Rattle.std.proofs.Common.{inl, inr, ◌≡◌, ◌<◌, ◌≤◌, ℕ, ◌+◌, ◌-◌, suc, cond, length, length-append, refl, arith, ap, add-one, Option, None}
use Rattle.std.specs.Option.{option_and_then}
use Rattle.std.proofs.lemmas.Bool.{cases_Bool}
use Rattle.pgp_crush.specs.declared.candidate.Pick.{Pick}
use Rattle.pgp_crush.specs.Least.{least_from}
use Rattle.pgp_crush.specs.Picks.{Picks, with_pick}
use Rattle.pgp_crush.specs.Candidate.{Input}
use Rattle.pgp_crush.specs.FirstN.{is_failure, taken_by, try_of, is_good_try, pick_of, first_picks}

-- ---- one replica

-- what the tries of a replica from the f-th on give
unfoldable pub from_try : Input → Picks → ℕ → ℕ → Option Pick
from_try i taken rep f = option_and_then (λ f. taken_by (try_of i rep f)) (least_from (is_good_try i taken rep) f (51 - f))

pub from_try-first : (i : Input) (taken : Picks) (rep : ℕ) → from_try i taken rep 0 ≡ pick_of i taken rep
unfolding from_try pick_of
from_try-first i taken rep = refl

-- one try, and those after it if it is a failure
pub from_try-more : (i : Input) (taken : Picks) (rep f : ℕ) → f < 51
    → from_try i taken rep f ≡ cond (is_failure taken (try_of i rep f)) (from_try i taken rep (f + 1)) (taken_by (try_of i rep f))
unfolding from_try least_from
from_try-more i taken rep f within =
    let left : 51 - f ≡ suc (51 - (f + 1)) = omega arith in
    rw (left, add-one f) (elim (cases_Bool (is_failure taken (try_of i rep f))) [ inl fails ↦ rw fails refl | inr good ↦ rw good refl ])

pub from_try-end : (i : Input) (taken : Picks) (rep f : ℕ) → f ≡ 51 → from_try i taken rep f ≡ None
unfolding from_try least_from
from_try-end i taken rep f e = rw e

pub ruleset try_steps = (from_try-first, from_try-more, from_try-end)

-- ---- the replicas

pub first_picks-more : (i : Input) (rep : ℕ) → first_picks i (rep + 1) ≡ with_pick (first_picks i rep) (pick_of i (first_picks i rep) rep)
unfolding first_picks
first_picks-more i rep = ap (first_picks i) (add-one rep)

pub with_pick-room : (taken : Picks) (pick : Option Pick) → length (with_pick taken pick).leaves ≤ length taken.leaves + 1
with_pick-room taken pick = grind (arith, length-append {A = Option ℕ})

pub ruleset replica_steps = (first_picks-more, with_pick-room)

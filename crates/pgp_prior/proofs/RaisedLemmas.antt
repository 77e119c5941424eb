-- Past intervals of which one may have gone read-write after all.
use Rattle.std.proofs.Common.{◌≡◌, ◌≤◌, ℕ, zero, suc, List, [], ◌∷◌, Some, Bool, true, length, map, slice_get, set, refl, sym, ap, ◌∙◌, arith}
use Rattle.std.proofs.lemmas.Grind.{common_steps}
use Rattle.pgp_ids.specs.declared.past.Past.{Past}
use Rattle.pgp_sets.specs.declared.status.Status.{Status}
use Rattle.pgp_prior.specs.declared.judged_interval.JudgedInterval.{JudgedInterval}
use Rattle.pgp_prior.specs.Blocks.{blocks}
use Rattle.pgp_prior.specs.kept.JudgedInterval.{past_of}
use Rattle.pgp_prior.specs.IndexOf.{HasEachPlace}
use Rattle.pgp_prior.specs.Prior.{is_group_down}
use Rattle.pgp_ids.specs.Past.{with_rw, raised_at}

pub length-raised_at : (place : ℕ) (past : List Past) → length (raised_at place past) ≡ length past
length-raised_at place [] = refl
length-raised_at zero (p ∷ past) = refl
length-raised_at (suc place) (p ∷ past) = grind (arith, length-raised_at place past)

-- there is no such place
pub raised_at-beyond : (place : ℕ) (past : List JudgedInterval) → length past ≤ place → map past_of past ≡ raised_at place (map past_of past)
raised_at-beyond place [] beyond = refl
raised_at-beyond zero (kept ∷ past) beyond = absurd (omega (arith, beyond))
raised_at-beyond (suc place) (kept ∷ past) beyond = ap (λ rest. kept.past ∷ rest) (raised_at-beyond place past (omega (arith, beyond)))

-- the interval at the place was raised
pub raised_at-set : (place : ℕ) (past : List JudgedInterval) (was now : JudgedInterval) → slice_get past place ≡ Some was → now.past ≡ with_rw was.past → map past_of (set past place now) ≡ raised_at place (map past_of past)
raised_at-set place [] was now there is = cc
raised_at-set zero (kept ∷ past) was now there is =
    let same : kept ≡ was = cc in
    ap (λ p. p ∷ map past_of past) (is ∙ ap (λ (k : JudgedInterval). with_rw k.past) (sym same))
raised_at-set (suc place) (kept ∷ past) was now there is =
    ap (λ rest. kept.past ∷ rest) (raised_at-set place past was now (grind (arith, there)) is)

-- each interval has the first epoch and the members that it had
get-raised_at : (place : ℕ) (past : List Past) (at : ℕ) (p : Past) → slice_get (raised_at place past) at ≡ Some p → (q : Past) × ((slice_get past at ≡ Some q) × (p.members ≡ q.members))
get-raised_at place [] at p is = (p, (is, refl))
get-raised_at zero (q ∷ past) zero p is =
    let same : with_rw q ≡ p = cc in
    (q, (refl, sym (ap (λ (r : Past). r.members) same)))
get-raised_at zero (q ∷ past) (suc at) p is = (p, (is, refl))
get-raised_at (suc place) (q ∷ past) zero p is = (p, (is, refl))
get-raised_at (suc place) (q ∷ past) (suc at) p is =
    let found = get-raised_at place past at p (grind (arith, is)) in
    (found.0, (grind (arith, found.1.0), found.1.1))

pub places-raised : (by_place : Bool) (place : ℕ) (past : List Past) (places : ℕ → List ℕ) → HasEachPlace by_place past places → HasEachPlace by_place (raised_at place past) places
places-raised by_place place past places has at p member is in' =
    let found = get-raised_at place past at p is in
    has at found.0 member found.1.0 (rw found.1.1 at in')

-- ---- whether the group is down

module _ (enough : List ℕ → Bool) (by_place : Bool) (status : ℕ → ℕ → Status) (les : ℕ) where
  blocks-with_rw : (p : Past) → blocks enough by_place status les p ≡ true → blocks enough by_place status les (with_rw p) ≡ true
  blocks-with_rw p blocking = grind (arith, common_steps)

  pub down-raised : (place : ℕ) (past : List Past) → is_group_down enough by_place status les past ≡ true → is_group_down enough by_place status les (raised_at place past) ≡ true
  down-raised place [] down = down
  down-raised zero (p ∷ past) down = grind (arith, common_steps, blocks-with_rw p)
  down-raised (suc place) (p ∷ past) down = grind (arith, common_steps, down-raised place past)

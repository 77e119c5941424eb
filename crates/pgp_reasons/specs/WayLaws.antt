-- What is enough to relieve a group stays enough with more devices.
use Rattle.std.proofs.Common.{◌≡◌, ℕ, List, [], Bool, true, false, not, cond, nat_eq, refl, ap, sym, arith}
use Rattle.std.specs.List.{list_any}
use Rattle.std.proofs.lemmas.Bool.{true≢false}
use Rattle.pgp_ids.specs.SlotSet.{IsSlotSet, is_within}
use Rattle.pgp_ids.specs.declared.past.Past.{Past}
use Rattle.pgp_lists.proofs.Members.{any-contains, contains-any}
use Rattle.pgp_prior.specs.Better.{is_no_worse}
use Rattle.pgp_prior.specs.Prior.{is_group_down}
use Rattle.pgp_prior.proofs.BetterLemmas.{no_worse-relieves, not_down-relieved}
use Rattle.pgp_sets.specs.declared.status.Status.{Status}
use Rattle.pgp_sets.specs.declared.status.Status.TheVariants.{Up, Gone, Lost, Down}
use Rattle.pgp_reasons.specs.Smallest.{IsPartOf}
use Rattle.pgp_reasons.specs.Ways.{given_up, status_after, is_relieved}

same-no_worse : (status : Status) → is_no_worse status status ≡ true
same-no_worse Up = refl
same-no_worse Gone = refl
same-no_worse Lost = refl
same-no_worse Down = refl

up-no_worse : (status : Status) → is_no_worse status Up ≡ true
up-no_worse Up = refl
up-no_worse Gone = refl
up-no_worse Lost = refl
up-no_worse Down = refl

given_up-no_worse : (status : Status) → is_no_worse status (given_up status) ≡ true
given_up-no_worse Up = refl
given_up-no_worse Gone = refl
given_up-no_worse Lost = refl
given_up-no_worse Down = refl

-- a device that is one of the first losses is one of the others
by_losses : (status : Status) (some others : Bool) → (some ≡ true → others ≡ true) → is_no_worse (cond some (given_up status) status) (cond others (given_up status) status) ≡ true
by_losses status true true more = same-no_worse (given_up status)
by_losses status true false more = absurd (true≢false (sym (more refl)))
by_losses status false true more = given_up-no_worse status
by_losses status false false more = same-no_worse status

-- and one of the first starts is one of the others
by_starts : (status : Status) (some others lost given : Bool) → (some ≡ true → others ≡ true) → (lost ≡ true → given ≡ true)
    → is_no_worse (cond some Up (cond lost (given_up status) status)) (cond others Up (cond given (given_up status) status)) ≡ true
by_starts status some true lost given more losses = up-no_worse (cond some Up (cond lost (given_up status) status))
by_starts status true false lost given more losses = absurd (true≢false (sym (more refl)))
by_starts status false false lost given more losses = by_losses status lost given losses

any-part : (part set : List ℕ) (osd : ℕ) → IsPartOf part set → list_any (nat_eq osd) part ≡ true → list_any (nat_eq osd) set ≡ true
any-part part set osd is some =
    let found = any-contains (nat_eq osd) part some in
    contains-any (nat_eq osd) set found.0 (is found.0 found.1.0) found.1.1

not-false : (b : Bool) → not b ≡ true → b ≡ false
not-false b is = grind arith

-- more devices are never less
pub relieved-more : (enough : List ℕ → Bool) (by_place : Bool) → ((a b : List ℕ) → IsSlotSet a → IsSlotSet b → is_within a b ≡ true → enough a ≡ true → enough b ≡ true) → (status : ℕ → ℕ → Status) (les : ℕ) (past : List Past)
    → (starts others losses given : List ℕ) → IsPartOf starts others → IsPartOf losses given
    → is_relieved enough by_place status les past starts losses ≡ true → is_relieved enough by_place status les past others given ≡ true
relieved-more enough by_place monotone status les past starts others losses given are lost relieved =
    ap not (not_down-relieved by_place enough monotone les (status_after starts losses status) (status_after others given status) past
    (λ p in' m acts. no_worse-relieves _ _ (by_starts (status m.osd p.first) (list_any (nat_eq m.osd) starts) (list_any (nat_eq m.osd) others) (list_any (nat_eq m.osd) losses) (list_any (nat_eq m.osd) given)
    (any-part starts others m.osd are) (any-part losses given m.osd lost)))
    (not-false (is_group_down enough by_place (status_after starts losses status) les past) relieved))

-- the same of devices that boot
pub starts-more : (enough : List ℕ → Bool) (by_place : Bool) → ((a b : List ℕ) → IsSlotSet a → IsSlotSet b → is_within a b ≡ true → enough a ≡ true → enough b ≡ true) → (status : ℕ → ℕ → Status) (les : ℕ) (past : List Past)
    → (part set : List ℕ) → IsPartOf part set
    → is_relieved enough by_place status les past part [] ≡ true → is_relieved enough by_place status les past set [] ≡ true
starts-more enough by_place monotone status les past part set is =
    relieved-more enough by_place monotone status les past part set [] [] is (λ osd in'. in')

-- The test of memberships is true exactly for equal ones.
use Rattle.std.proofs.Common.{◌≡◌, ℕ, List, Option, Some, None, true, nat_eq, refl, ap, arith, Decides}
use Rattle.std.specs.Option.{option_eq}
use Rattle.std.proofs.lemmas.Bool.{false≢true, eqb-true, eq-eqb}
use Rattle.std.proofs.lemmas.Bool.Decides.{nat_tests}
use Rattle.std.proofs.lemmas.Slice.Eq.{slice_eq-Decides}
use Rattle.pgp_ids.specs.declared.membership.Membership.{Membership}
use Rattle.pgp_interval.specs.SameMembers.{has_same_places, is_same}

option_eq-Decides : (a b : Option ℕ) → Decides (option_eq nat_eq a b) (a ≡ b)
option_eq-Decides None None = (λ _. refl, λ _. refl)
option_eq-Decides None (Some y) = (λ e. absurd (false≢true e), λ e. cc)
option_eq-Decides (Some x) None = (λ e. absurd (false≢true e), λ e. cc)
option_eq-Decides (Some x) (Some y) = (λ e. ap Some (eqb-true x y e), λ e. eq-eqb x y cc)

has_same_places-Decides : (xs ys : List (Option ℕ)) → Decides (has_same_places xs ys) (xs ≡ ys)
has_same_places-Decides xs ys = slice_eq-Decides option_eq-Decides xs ys _ refl

is_same-Decides : (a b : Membership) → Decides (is_same a b) (a ≡ b)
is_same-Decides a b =
    let up = has_same_places-Decides a.up b.up in
    let acting = has_same_places-Decides a.acting b.acting in
    let up_primary = option_eq-Decides a.up_primary b.up_primary in
    let acting_primary = option_eq-Decides a.acting_primary b.acting_primary in
    grind (arith, nat_tests, up, acting, up_primary, acting_primary)

pub is_same-eq : (a b : Membership) → is_same a b ≡ true → a ≡ b
is_same-eq a b = (is_same-Decides a b).0

pub eq-is_same : (a b : Membership) → a ≡ b → is_same a b ≡ true
eq-is_same a b = (is_same-Decides a b).1

pub ruleset same_laws = (is_same-eq, eq-is_same)

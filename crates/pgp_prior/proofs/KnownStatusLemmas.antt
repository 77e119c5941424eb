-- What is known of the devices of an interval, as it is made and changed.
use Rattle.std.proofs.Common.{◌≡◌, ℕ, List, [], ◌∷◌, Some, map, unwrap_or, refl, ap, arith}
use Rattle.std.specs.List.{Contains}
use Rattle.std.proofs.lemmas.Bool.Decides.{nat_tests}
use Rattle.pgp_ids.specs.declared.member.Member.{Member}
use Rattle.pgp_lists.proofs.Members.{Contains-nil, Contains-cases}
use Rattle.pgp_sets.specs.declared.status.Status.{Status}
use Rattle.pgp_sets.specs.declared.status.Status.TheVariants.{Gone}
use Rattle.pgp_prior.specs.declared.statuses.KnownStatus.{KnownStatus}
use Rattle.pgp_prior.specs.kept.KnownStatuses.{status_in, status_or_gone, known_of, renamed}

pub status-known : (status : ℕ → ℕ → Status) (first : ℕ) (members : List Member) (member : Member) → Contains members member → status_in (map (known_of status first) members) member.osd ≡ Some (status member.osd first)
status-known status first [] member in' = absurd (Contains-nil member in')
status-known status first (m ∷ members) member in' =
    grind (arith, nat_tests, Contains-cases m members member in', status-known status first members member)

-- the device that was renamed, where it is known
pub status-renamed : (osd : ℕ) (status before : Status) (known : List KnownStatus) → status_in known osd ≡ Some before → status_in (map (renamed osd status) known) osd ≡ Some status
status-renamed osd status before [] there = cc
status-renamed osd status before (k ∷ known) there = grind (arith, status-renamed osd status before known)

-- the others
pub status-others : (osd : ℕ) (status : Status) (known : List KnownStatus) (other : ℕ) → (other ≡ osd → ⊥) → status_in (map (renamed osd status) known) other ≡ status_in known other
status-others osd status [] other apart = refl
status-others osd status (k ∷ known) other apart = grind (arith, nat_tests, status-others osd status known other apart)

pub status_or_gone-is : (known : List KnownStatus) (osd : ℕ) (status : Status) → status_in known osd ≡ Some status → status_or_gone known osd ≡ status
status_or_gone-is known osd status is = ap (λ o. unwrap_or o Gone) is

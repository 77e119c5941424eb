-- Which of two infos a pool prefers (Ceph's developer documentation on peering, and on erasure coding; that the lesser
-- member comes first where all else is alike is this project's own choice).
use Rattle.std.specs.Prelude.{◌≡◌, ◌≢◌, Option, Some, None, Bool, true, false, not}
use Rattle.std.specs.declared.cmp.Ordering.{Ordering}
use Rattle.std.specs.Ordering.{on, flip_args, then_cmp, bool_cmp, is_lt}
use Rattle.pgp_ids.specs.Version.{version_cmp}
use Rattle.pgp_ids.specs.Member.{member_cmp, is_same_member}
use Rattle.pgp_ids.specs.declared.member.Member.{Member}
use Rattle.pgp_ids.specs.declared.report.Info.{Info}

-- the info is that of the acting primary in its place
abbrev pub is_primary : Option Member → Info → Bool
is_primary None info = false
is_primary (Some primary) info = is_same_member primary info.member

-- how infos compare whose last updates are the same: the lesser log_tail first, then the acting primary, then the lesser
-- member
abbrev pub tie_cmp : Option Member → Info → Info → Ordering
tie_cmp primary =
    then_cmp (on (λ info. info.log_tail) version_cmp)
    (then_cmp (flip_args (on (is_primary primary) bool_cmp)) (on (λ info. info.member) member_cmp))

-- how infos compare in a replicated pool: the greatest last update first
abbrev pub newest_first_cmp : Option Member → Info → Info → Ordering
newest_first_cmp primary = then_cmp (flip_args (on (λ info. info.last_update) version_cmp)) (tie_cmp primary)

-- how infos compare in an erasure pool: the least last update first
abbrev pub oldest_first_cmp : Option Member → Info → Info → Ordering
oldest_first_cmp primary = then_cmp (on (λ info. info.last_update) version_cmp) (tie_cmp primary)

-- a replicated pool prefers the first of two infos
abbrev pub newest_first : Option Member → Info → Info → Bool
newest_first primary a b = is_lt (newest_first_cmp primary a b)

-- an erasure pool prefers the first of two infos
abbrev pub oldest_first : Option Member → Info → Info → Bool
oldest_first primary a b = is_lt (oldest_first_cmp primary a b)

-- over infos of distinct members a preference is a strict total order
pub record IsPreference (better : Info → Info → Bool) : Type 0 where
  pub irreflexive : (a : Info) → better a a ≡ false
  pub transitive : (a b c : Info) → a.member ≢ b.member → b.member ≢ c.member → a.member ≢ c.member → better a b ≡ true → better b c ≡ true → better a c ≡ true
  pub one_of_two : (a b : Info) → a.member ≢ b.member → better a b ≡ not (better b a)

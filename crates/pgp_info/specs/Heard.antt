-- What is known of the copies of a placement group (Ceph's developer documentation on peering): the last info of each
-- member, and which of two copies its pool would rather follow.
use Rattle.std.specs.Prelude.{List, [], ◌∷◌, ◌++◌, Bool, not, filter, fold, if◌then◌else◌}
use Rattle.std.specs.List.{list_any}
use Rattle.pgp_ids.specs.Member.{is_same_member}
use Rattle.pgp_ids.specs.declared.member.Member.{Member}
use Rattle.pgp_ids.specs.declared.report.Info.{Info}

-- what is known of a group's copies: the preference of its pool, and the infos, no two of one member
pub record Heard (P : Type 0) : Type 0 where
  pub prefer : P
  pub infos : List Info

-- before anything was heard
abbrev pub heard_nothing : {P : Type 0} → P → Heard P
heard_nothing prefer = record { prefer = prefer; infos = [] }

-- the infos of other members
abbrev pub without : Member → List Info → List Info
without member infos = filter (λ info. not (is_same_member info.member member)) infos

-- the infos of other members, and then this one
abbrev pub with_info : Info → List Info → List Info
with_info info infos = without info.member infos ++ info ∷ []

-- these infos, each put in its turn
abbrev pub with_infos : List Info → List Info → List Info
with_infos new infos = fold (λ kept info. with_info info kept) infos new

-- one of the infos is of this member
abbrev pub has_member : Member → List Info → Bool
has_member member infos = list_any (λ info. is_same_member info.member member) infos

-- the infos without those after which one of the same member came
abbrev pub last_of_each_member : List Info → List Info
last_of_each_member [] = []
last_of_each_member (info ∷ later) =
    if has_member info.member later then last_of_each_member later else info ∷ last_of_each_member later

-- The best of the infos that were heard of a placement group (Ceph's developer documentation on peering).
use Rattle.std.specs.Prelude.{◌≡◌, ◌≢◌, ℕ, List, Option, Bool, false, not, ◌&&◌, nat_le, max, map, filter, fold, find, Contains, AllPairs}
use Rattle.std.specs.List.{list_all}
use Rattle.pgp_ids.specs.declared.report.Info.{Info}

-- no two infos are of one member
abbrev pub HasDistinctMembers : List Info → Type 0
HasDistinctMembers infos = AllPairs (λ a b. a.member ≢ b.member) infos

-- the last epoch in which the group began to serve, as far as the infos tell: the greatest history_les of all of them and
-- les of the complete ones
abbrev pub last_start : List Info → ℕ
last_start infos =
    max (fold max 0 (map (λ info. info.history_les) infos))
    (fold max 0 (map (λ info. info.les) (filter (λ info. info.complete) infos)))

-- the infos whose copies may be followed: complete ones that served in that epoch or later
abbrev pub candidates : List Info → List Info
candidates infos = filter (λ info. info.complete && nat_le (last_start infos) info.les) infos

-- none of the infos is preferred to this one
abbrev pub is_unbeaten : (Info → Info → Bool) → List Info → Info → Bool
is_unbeaten better infos info = list_all (λ other. not (better other info)) infos

-- the candidate to which no other candidate is preferred
abbrev pub best_info : (Info → Info → Bool) → List Info → Option Info
best_info better infos = find (is_unbeaten better (candidates infos)) (candidates infos)

-- the info is a candidate, and no candidate is preferred to it
pub record IsBest (better : Info → Info → Bool) (infos : List Info) (info : Info) : Type 0 where
  pub candidate : Contains (candidates infos) info
  pub unbeaten : (other : Info) → Contains (candidates infos) other → better other info ≡ false

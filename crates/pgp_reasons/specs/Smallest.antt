-- Sets of devices, and the smallest of those that are enough for something. `enough` says whether a set is enough.
use Rattle.std.specs.Prelude.{◌≡◌, ◌⊎◌, ℕ, zero, suc, ◌+◌, ◌<◌, ◌≤◌, List, [], ◌∷◌, ◌++◌, Bool, true, false, not, nat_eq, nat_le, ◌&&◌, length, map, filter, flat_map, count_by, Contains}
use Rattle.std.specs.List.{list_any, range_with_len}
use Rattle.pgp_reasons.specs.declared.ways.Ways.{Ways}
use Rattle.pgp_reasons.specs.declared.ways.Ways.TheVariants.{Any, Listed}
use Rattle.pgp_reasons.specs.declared.ways.AnyOf.{AnyOf}

-- the sets of this many of the devices, in the order of the devices
abbrev pub sets_of : ℕ → List ℕ → List (List ℕ)
sets_of zero osds = [] ∷ []
sets_of (suc n) [] = []
sets_of (suc n) (osd ∷ osds) = map (λ set. osd ∷ set) (sets_of n osds) ++ sets_of (suc n) osds

-- all sets of the devices, the smaller first
abbrev pub all_sets : List ℕ → List (List ℕ)
all_sets osds = flat_map (λ n. sets_of n osds) (range_with_len 0 (length osds + 1))

-- what is left of the set without one of its devices, for each of them
abbrev pub each_but_one : List ℕ → List (List ℕ)
each_but_one [] = []
each_but_one (osd ∷ osds) = osds ∷ map (λ set. osd ∷ set) (each_but_one osds)

-- the set is enough, and is so no more once one of its devices is left out
abbrev pub is_smallest : (List ℕ → Bool) → List ℕ → Bool
is_smallest enough set = enough set && not (list_any enough (each_but_one set))

-- the smallest of the sets of these devices that are enough
abbrev pub smallest : (List ℕ → Bool) → List ℕ → List (List ℕ)
smallest enough osds = filter (is_smallest enough) (all_sets osds)

-- the same of the sets that are the chosen devices and this many of the rest
abbrev pub smallest_with : (List ℕ → Bool) → List ℕ → ℕ → List ℕ → List (List ℕ)
smallest_with enough chosen n rest = filter (is_smallest enough) (map (λ set. chosen ++ set) (sets_of n rest))

-- the device is one of the set
abbrev pub holds : List ℕ → ℕ → Bool
holds set osd = list_any (nat_eq osd) set

-- each device of the first set is one of the second
abbrev pub IsPartOf : List ℕ → List ℕ → Type 0
IsPartOf part set = (osd : ℕ) → Contains part osd → Contains set osd

-- these are the first of all, and all of them where the walk was whole
pub record AreFirstOf (whole : Bool) (all listed : List (List ℕ)) : Type 0 where
  pub others : List (List ℕ)
  pub are : all ≡ listed ++ others
  pub none_other : whole ≡ true → others ≡ []

-- how many sets are listed at most
abbrev pub most_sets : ℕ
most_sets = 16

-- of this many devices all sets are judged, as far as they have to be
abbrev pub few_devices : ℕ
few_devices = 9

-- there are more sets than may be listed, or there were too many devices to judge all their sets
abbrev pub AreMany : List ℕ → (all : List (List ℕ)) → Type 0
AreMany osds all = (most_sets < length all) ⊎ (few_devices < length osds)

-- each of these sets has the device
abbrev pub AllHave : List (List ℕ) → ℕ → Type 0
AllHave sets osd = (set : List ℕ) → Contains sets set → Contains set osd

-- These are some of the smallest sets of the devices that are enough, one at least and no more than may be. Fewer than may be have
-- no device in common, except for devices that all sets have which are enough.
pub record IsSpread (enough : List ℕ → Bool) (osds : List ℕ) (listed : List (List ℕ)) : Type 0 where
  pub some : (set : List ℕ) → Contains listed set → Contains (smallest enough osds) set
  pub one : 0 < length listed
  pub bound : length listed ≤ most_sets
  pub common : length listed < most_sets → (osd : ℕ) → AllHave listed osd
      → (set : List ℕ) → IsPartOf set osds → enough set ≡ true → Contains set osd

-- These are the smallest sets of the devices that are enough, no more than may be. Where there may be others, some are listed.
-- That is only said where there are many.
pub record AreSome (enough : List ℕ → Bool) (osds : List ℕ) (listed : List (List ℕ)) (more : Bool) : Type 0 where
  pub each : more ≡ false → listed ≡ smallest enough osds
  pub bound : length listed ≤ most_sets
  pub spread : more ≡ true → IsSpread enough osds listed
  pub word : more ≡ true → AreMany osds (smallest enough osds)

-- Of these devices a set is enough exactly if it has at least so many of some of them. There is more than one way to choose
-- those.
pub record IsAnyOf (enough : List ℕ → Bool) (osds : List ℕ) (any : AnyOf) : Type 0 where
  pub exact : (set : List ℕ) → IsPartOf set osds → enough set ≡ nat_le any.least (count_by (holds set) any.osds)
  pub test : ℕ → Bool
  pub are : any.osds ≡ filter test osds
  pub some : 0 < any.least
  pub fewer : any.least < length any.osds

-- all sets are those of any so many of some devices, or these are listed
abbrev pub AreWays : (List ℕ → Bool) → List ℕ → Ways → Type 0
AreWays enough osds (Any any) = IsAnyOf enough osds any
AreWays enough osds (Listed listed) = AreSome enough osds listed.sets listed.more

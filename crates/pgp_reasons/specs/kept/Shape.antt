-- Whether any so many of some devices are enough, as the code finds it.
use Rattle.std.specs.Prelude.{◌≡◌, ℕ, List, [], ◌∷◌, ◌++◌, Bool, true, false, not, ◌||◌, drop, Contains}
use Rattle.pgp_reasons.specs.Smallest.{holds, sets_of}

-- the device is one of the set, or is enough with those of the set that follow its first
abbrev pub takes_part : (List ℕ → Bool) → List ℕ → ℕ → Bool
takes_part enough set osd = holds set osd || enough (drop 1 set ++ osd ∷ [])

-- these devices with as many of the rest as are left to be chosen, and the others, are judged so, whichever are chosen
abbrev pub IsEach : (List ℕ → Bool) → Bool → (chosen : List ℕ) → ℕ → (rest others : List ℕ) → Type 0
IsEach enough wanted chosen left rest others =
    (set : List ℕ) → Contains (sets_of left rest) set → enough ((chosen ++ set) ++ others) ≡ wanted

-- the answer is the one that is wanted
abbrev pub is_as_wanted : (wanted said : Bool) → Bool
is_as_wanted true said = said
is_as_wanted false said = not said

-- What is kept of the map before an incremental.
use Rattle.pgp_log.proofs.Common.{◌≡◌, ℕ, ◌+◌, ◌<◌, List, [], ◌∷◌, ◌++◌, false, Option, Some, None, map, option_map, length, get_or, take, refl, sym, ap, ◌∙◌, eq-eqb, append_assoc, list_any, nat_eq, slice_get, eqb-true, map_more, slice_get-map, slice_get_read, DeviceEpoch, Incremental, any-mapped, boots, then_with, none-append, none-narrower, facts-stay, primary_facts, IsMapBefore, renamed_devices, with_facts, DeviceFacts, MapBefore}

-- each of them has what the map said of it
pub facts-at : (incs : List Incremental) (inc : Incremental) (before : MapBefore) (i : ℕ) (device : DeviceFacts) → IsMapBefore incs inc before → i < length before.devices.items
    → device ≡ get_or before.devices.items i device → device.facts ≡ primary_facts incs (Some device.osd)
facts-at incs inc before i device is within item = at (slice_get (renamed_devices inc) i) there where
  there : option_map (with_facts incs) (slice_get (renamed_devices inc) i) ≡ Some device
  there =
      sym (slice_get-map (with_facts incs) (renamed_devices inc) i) ∙ ap (λ (l : List DeviceFacts). slice_get l i) (sym is.devices_are)
      ∙ slice_get_read before.devices.items (length before.devices.items) i device refl within item

  at : (found : Option ℕ) → option_map (with_facts incs) found ≡ Some device → device.facts ≡ primary_facts incs (Some device.osd)
  at None same = cc
  at (Some osd) same =
      let is_it : with_facts incs osd ≡ device = cc in
      ap (λ (d : DeviceFacts). d.facts) (sym is_it) ∙ ap (λ (d : DeviceFacts). primary_facts incs (Some d.osd)) is_it

-- and the map with the incremental says the same of every other device
pub facts-else : (incs : List Incremental) (inc : Incremental) (before : MapBefore) (osd : ℕ) → IsMapBefore incs inc before → list_any (λ (d : DeviceFacts). nat_eq d.osd osd) before.devices.items ≡ false
    → primary_facts (then_with incs inc) (Some osd) ≡ primary_facts incs (Some osd)
facts-else incs inc before osd is none =
    let told : DeviceEpoch → ℕ = λ t. t.osd in
    let all : list_any (λ (o : ℕ). nat_eq o osd) (renamed_devices inc) ≡ false =
    sym (any-mapped (with_facts incs) (λ (d : DeviceFacts). nat_eq d.osd osd) (renamed_devices inc)) ∙ ap (list_any (λ (d : DeviceFacts). nat_eq d.osd osd)) (sym is.devices_are) ∙ none in
    let parts = none-append (λ (o : ℕ). nat_eq o osd) inc.up (map told inc.up_thru) all in
    let booted : boots osd inc ≡ false =
    none-narrower (nat_eq osd) (λ (o : ℕ). nat_eq o osd) (λ o same. eq-eqb o osd (sym (eqb-true osd o same))) inc.up parts.0 in
    facts-stay incs inc osd booted (sym (any-mapped told (λ (o : ℕ). nat_eq o osd) inc.up_thru) ∙ parts.1)

-- one device more is noted
pub noted-more : {X Y : Type 0} (f : X → Y) (first now : List Y) (xs : List X) (i : ℕ) (x : X) (new : Y) → i < length xs → x ≡ get_or xs i x → new ≡ f x
    → now ≡ first ++ map f (take i xs) → now ++ new ∷ [] ≡ first ++ map f (take (i + 1) xs)
noted-more {X = X} {Y = Y} f first now xs i x new within item is so_far =
    ap (λ (l : List Y). l ++ new ∷ []) so_far ∙ append_assoc first (map f (take i xs)) (new ∷ [])
    ∙ ap (λ (d : Y). first ++ (map f (take i xs) ++ d ∷ [])) (is ∙ ap f item) ∙ ap (λ (l : List Y). first ++ l) (sym (map_more f xs i x within))

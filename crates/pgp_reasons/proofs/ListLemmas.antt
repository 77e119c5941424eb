-- Lists that are read up to one more element.
use Rattle.std.proofs.Common.{◌≡◌, ℕ, ◌+◌, ◌<◌, List, [], ◌∷◌, ◌++◌, Option, Some, None, get_or, length, map, take, ap, ◌∙◌}
use Rattle.std.specs.List.{filter_map}
use Rattle.std.proofs.lemmas.List.{map_push}
use Rattle.pgp_group.proofs.Lists.{nothing_new, one_new, take-next}

pub map-next : {X Y : Type 0} (f : X → Y) (xs : List X) (i : ℕ) (x : X) → i < length xs → x ≡ get_or xs i x → map f (take (i + 1) xs) ≡ map f (take i xs) ++ f x ∷ []
map-next f xs i x within item = ap (map f) (take-next xs i x within item) ∙ map_push f (take i xs) x

pub found-next : {X Y Z : Type 0} (found : Y → Option Z) (f : X → Y) (xs : List X) (i : ℕ) (x : X) (z : Z) → i < length xs → x ≡ get_or xs i x → found (f x) ≡ Some z
    → filter_map found (map f (take (i + 1) xs)) ≡ filter_map found (map f (take i xs)) ++ z ∷ []
found-next found f xs i x z within item is = ap (filter_map found) (map-next f xs i x within item) ∙ one_new found (map f (take i xs)) (f x) z is

pub missed-next : {X Y Z : Type 0} (found : Y → Option Z) (f : X → Y) (xs : List X) (i : ℕ) (x : X) → i < length xs → x ≡ get_or xs i x → found (f x) ≡ None
    → filter_map found (map f (take (i + 1) xs)) ≡ filter_map found (map f (take i xs))
missed-next found f xs i x within item none = ap (filter_map found) (map-next f xs i x within item) ∙ nothing_new found (map f (take i xs)) (f x) none

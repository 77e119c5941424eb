-- Whether a placement group has the same membership at two epochs.
use Rattle.std.specs.Prelude.{ℕ, List, Option, Bool, ◌&&◌, nat_eq}
use Rattle.std.specs.Option.{option_eq}
use Rattle.std.specs.Cmp.Lexicographic.{pointwise}
use Rattle.pgp_ids.specs.declared.membership.Membership.{Membership}

-- the same devices and empty places, place by place
abbrev pub has_same_places : List (Option ℕ) → List (Option ℕ) → Bool
has_same_places = pointwise (option_eq nat_eq)

-- all six fields are the same
abbrev pub is_same : Membership → Membership → Bool
is_same a b =
    has_same_places a.up b.up
    && option_eq nat_eq a.up_primary b.up_primary
    && has_same_places a.acting b.acting
    && option_eq nat_eq a.acting_primary b.acting_primary
    && nat_eq a.size b.size
    && nat_eq a.min_size b.min_size

-- The order of versions: by epoch, and then by number.
use Rattle.std.specs.Prelude.{Bool, nat_eq, ◌&&◌}
use Rattle.std.specs.declared.cmp.Ordering.{Ordering}
use Rattle.std.specs.Ordering.{nat_cmp, on, then_cmp, is_lt}
use Rattle.pgp_ids.specs.declared.version.Version.{Version}

-- how two versions compare
abbrev pub version_cmp : Version → Version → Ordering
version_cmp = then_cmp (on (λ version. version.epoch) nat_cmp) (on (λ version. version.v) nat_cmp)

-- the first comes before the second
abbrev pub is_older : Version → Version → Bool
is_older a b = is_lt (version_cmp a b)

-- both parts are the same
abbrev pub is_same_version : Version → Version → Bool
is_same_version a b = nat_eq a.epoch b.epoch && nat_eq a.v b.v

-- Where an object lies, as C reads it. This project's own choice.
use Rattle.std.specs.Prelude.{ℕ, List, Option, Some, None, length, map, slice_index_or}
use Rattle.std.specs.List.{range_with_len}
use Rattle.pgp_ids.specs.declared.pg_id.PgId.{PgId}
use Rattle.pgp_ids.specs.declared.membership.Membership.{Membership}
use Rattle.pgp_c.specs.declared.place.PgpPlace.{PgpPlace}

-- the number of a device, where there is one
abbrev pub device_number : Option ℕ → ℕ
device_number None = 65535
device_number (Some device) = device

-- the number of the device at a place of the list
abbrev pub device_number_at : List (Option ℕ) → ℕ → ℕ
device_number_at devices place = device_number (slice_index_or devices place None)

-- the numbers of the devices at the first sixteen places
abbrev pub sixteen : List (Option ℕ) → List ℕ
sixteen devices = map (device_number_at devices) (range_with_len 0 16)

abbrev pub pgp_place : PgId → Membership → ℕ → PgpPlace
pgp_place pg members epoch = record {
  epoch = epoch;
  pg = pg.pg;
  up_primary = device_number members.up_primary;
  acting_primary = device_number members.acting_primary;
  size = members.size;
  min_size = members.min_size;
  up_length = length members.up;
  acting_length = length members.acting;
  up = sixteen members.up;
  acting = sixteen members.acting;
}

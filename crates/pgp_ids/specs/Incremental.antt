-- Map incrementals. This project's own choice.
use Rattle.std.specs.Prelude.{ℕ, [], None}
use Rattle.pgp_ids.specs.declared.incremental.Incremental.{Incremental}

-- the step from the map of the one epoch to that of the other that changes nothing else
abbrev pub no_change : ℕ → ℕ → Incremental
no_change after epoch = record {
  after = after;
  epoch = epoch;
  up = [];
  down = [];
  gone = [];
  weight = [];
  up_thru = [];
  lost = [];
  pools = [];
  sizes = [];
  temp = [];
  crush = None;
}

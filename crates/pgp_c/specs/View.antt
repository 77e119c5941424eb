-- What a log says of a placement group, as C reads it. This project's own choice.
use Rattle.std.specs.Prelude.{ℕ, length, option_map}
use Rattle.std.specs.Option.{option_map_or}
use Rattle.pgp_ids.specs.declared.verdict.Verdict.{Verdict}
use Rattle.pgp_ids.specs.declared.verdict.Verdict.TheVariants.{NoPrimary, Down, Waiting, Incomplete, Short, NeedLog, NeedUpThru, Serve}
use Rattle.pgp_ids.specs.declared.view.View.{View}
use Rattle.pgp_c.specs.Place.{device_number, sixteen}
use Rattle.pgp_c.specs.declared.view.PgpView.{PgpView}

-- the number by which C knows a verdict
abbrev pub verdict_number : Verdict → ℕ
verdict_number NoPrimary = 0
verdict_number Down = 1
verdict_number Waiting = 2
verdict_number Incomplete = 3
verdict_number Short = 4
verdict_number NeedLog = 5
verdict_number NeedUpThru = 6
verdict_number Serve = 7

abbrev pub pgp_view : View → PgpView
pgp_view view = record {
  count = view.count;
  intervals = length view.intervals;
  probe = length view.probe;
  blocked_by = length view.blocked_by;
  missing = length view.missing;
  epoch = view.epoch;
  first = view.first;
  les = view.les;
  verdict = verdict_number view.verdict;
  up_primary = device_number view.up_primary;
  acting_primary = device_number view.acting_primary;
  best_osd = device_number (option_map (λ best. best.osd) view.best);
  best_slot = option_map_or (λ best. best.slot) view.best 0;
  up_length = length view.up;
  acting_length = length view.acting;
  up = sixteen view.up;
  acting = sixteen view.acting;
}

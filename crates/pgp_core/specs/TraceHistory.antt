-- The history that a trace tells of one group.
use Rattle.std.specs.Prelude.{List, ◌∷◌, length, take, slice_index_or}
use Rattle.pgp_code.specs.declared.any.AnyCode.{AnyCode}
use Rattle.pgp_ids.specs.declared.history.EpochState.{EpochState}
use Rattle.pgp_interval.specs.History.{History}

-- the last of the epochs: the one before which all but one of them stand
abbrev pub last_state : EpochState → List EpochState → EpochState
last_state opening others = slice_index_or (opening ∷ others) (length others) opening

-- The history of these epochs, the first of which is epoch 1: the last one is current, the others are over.
abbrev pub trace_history : AnyCode → EpochState → List EpochState → History AnyCode
trace_history code opening others = record {
  code = code;
  first = 1;
  lived = take (length others) (opening ∷ others);
  current = (last_state opening others).members;
}

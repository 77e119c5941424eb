-- How far the answering of a script has come in what its reader gives.
use Rattle.std.specs.Prelude.{◌≡◌, ℕ, List, ◌++◌, Bool, Option}
use Rattle.std.specs.Io.KnownBytes.{Consumes}
use Rattle.pgp_ids.specs.declared.entry.Entry.{Entry}
use Rattle.pgp_core.specs.Lines.{cut}
use Rattle.pgp_core.specs.Script.{IsBeyond, whole_lines}
use Rattle.pgp_core.specs.Telling.{AreAnswered, IsStopped, RunStart}
use Rattle.pgp_core.specs.kept.Input.{HasRead}
use Rattle.pgp_core.specs.declared.script.Script.{Script}
use Rattle.pgp_core.specs.declared.fault.ScriptFault.{ScriptFault}
use Rattle.pgp_core.specs.declared.fault.ScriptFault.TheVariants.{Read}

-- These bytes were read, by a reader of lines up to that version, and the answers to the lines that have ended are written or pending.
pub record IsAfterBytes (alone : Bool) (start : RunStart) (script : Script) (log : List Entry) (now : Option (List ℕ)) (bytes : List ℕ) : Type 0 where
  pub format : script.codec.reader.format ≡ start.format
  pub read : HasRead start.bounds script.input bytes
  pub answered : AreAnswered alone start (cut bytes).whole log now script.output.pending.items

-- The run stopped in these bytes: at a read fault, they are more than the bounds allow.
pub record StopsIn (alone : Bool) (start : RunStart) (fault : ScriptFault) (now : Option (List ℕ)) (bytes : List ℕ) : Type 0 where
  pub stopped : IsStopped alone start fault now (whole_lines start.bounds bytes)
  pub beyond : fault ≡ Read → IsBeyond start.bounds bytes

-- the part of the chunk before `rest` was taken
pub record ChunkPart (alone : Bool) (old new : Script) (before after : List Entry) (was now : Option (List ℕ)) (chunk rest : List ℕ) : Type 0 where
  pub done : List ℕ
  pub whole : done ++ rest ≡ chunk
  pub goes : (start : RunStart) (bytes : List ℕ) → IsAfterBytes alone start old before was bytes → IsAfterBytes alone start new after now (bytes ++ done)

-- The reader gave these bytes, which were read, and the answers to the lines that have ended in them are written or pending.
pub record Reads (alone : Bool) (start : RunStart) (script : Script) (log : List Entry) (from to now : Option (List ℕ)) : Type 0 where
  pub bytes : List ℕ
  pub consumed : Consumes from to bytes
  pub after : IsAfterBytes alone start script log now bytes

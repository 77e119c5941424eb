-- One turn of the loop over the reader, and the ways in which it stops.
use Rattle.std.proofs.Common.{◌≡◌, ◌≢◌, ℕ, List, [], ◌++◌, Bool, true, false, ◌∷◌, Option, refl, append-nil, subst, inl, inr}
use Rattle.std.specs.Io.KnownBytes.{Appends, Consumes, Keeps, IsAtEnd}
use Rattle.std.proofs.KnownBytes.{Consumes-trans, Consumes-kept}
use Rattle.pgp_ids.specs.declared.entry.Entry.{Entry}
use Rattle.pgp_lines.specs.declared.command.format.Format.{Format}
use Rattle.pgp_core.specs.Account.{Account, ReadFailedBy}
use Rattle.pgp_core.specs.Lines.{cut}
use Rattle.pgp_core.specs.Script.{whole_lines}
use Rattle.pgp_core.specs.WrittenFor.{StartsLeft}
use Rattle.pgp_core.specs.Telling.{RunStart, AreAnswered, IsStopped, WentBy, StoppedAtLast, Stops, WasStopped}
use Rattle.pgp_core.specs.kept.Progress.{IsAfterBytes, StopsIn, Reads}
use Rattle.pgp_core.specs.declared.input.Bounds.{Bounds}
use Rattle.pgp_core.specs.declared.output.Output.{Output}
use Rattle.pgp_core.specs.declared.script.Script.{Script}
use Rattle.pgp_core.specs.declared.fault.ScriptFault.{ScriptFault}
use Rattle.pgp_core.specs.declared.fault.ScriptFault.TheVariants.{Read, Write, Gone}
use Rattle.pgp_core.proofs.OutputLemmas.{WrittenPart-none}
use Rattle.pgp_core.proofs.RunLemmas.{all_read, stopped-after, went-on}

-- what was pending has been written
pub written : (alone : Bool) (start : RunStart) (lines : List (List ℕ)) (log : List Entry) (now new : Option (List ℕ)) (pending : List ℕ)
    → AreAnswered alone start lines log now pending → Appends now new pending → AreAnswered alone start lines log new []
written alone start lines log now new pending so_far wrote = went-on alone start lines log now new pending [] so_far (WrittenPart-none now new pending wrote)

after_flush : (alone : Bool) (start : RunStart) (script : Script) (output : Output) (log : List Entry) (now new : Option (List ℕ)) (bytes : List ℕ)
    → Appends now new script.output.pending.items → output.pending.items ≡ [] → IsAfterBytes alone start script log now bytes
    → IsAfterBytes alone start (record script { output = output }) log new bytes
after_flush alone start script output log now new bytes wrote none after =
    record { format = after.format; read = after.read; answered = rw none (written alone start (cut bytes).whole log now new _ after.answered wrote) }

pub turn : (alone : Bool) (start : RunStart) (script new : Script) (output : Output) (before after : List Entry) (from mid to now flushed then : Option (List ℕ)) (chunk : List ℕ)
    → Reads alone start script before from mid now → Appends now flushed script.output.pending.items → output.pending.items ≡ [] → Consumes mid to chunk
    → ((start : RunStart) (bytes : List ℕ) → IsAfterBytes alone start (record script { output = output }) before flushed bytes → IsAfterBytes alone start new after then (bytes ++ chunk))
    → Reads alone start new after from to then
turn alone start script new output before after from mid to now flushed then chunk reads wrote none more step = record {
  bytes = reads.bytes ++ chunk;
  consumed = Consumes-trans from mid to reads.bytes chunk reads.consumed more;
  after = step start reads.bytes (after_flush alone start script output before now flushed reads.bytes wrote none reads.after);
}

-- before a chunk was read: what was pending was written, or a write of it failed
pub stops_at_read : (fault : ScriptFault) (alone : Bool) (start : RunStart) (script : Script) (log : List Entry) (from mid to now new : Option (List ℕ)) (read_failed : Bool)
    → fault ≢ Gone → Reads alone start script log from mid now → WentBy fault now new script.output.pending.items → Keeps mid to → (fault ≡ Read → read_failed ≡ true)
    → Stops alone start fault from to new read_failed
stops_at_read fault alone start script log from mid to now new read_failed known reads went kept failed = record {
  script = reads.bytes;
  consumed = Consumes-kept from mid to reads.bytes reads.consumed kept;
  answered = inl (subst (λ b. IsStopped alone start fault new (whole_lines start.bounds b)) (append-nil reads.bytes)
      (stopped-after fault alone start script log now new reads.bytes [] reads.after known went (λ _. all_read start reads.bytes)));
  cause = λ read. inl (failed read);
}

pub stops_in_chunk : (alone : Bool) (start : RunStart) (fault : ScriptFault) (script : Script) (output : Output) (log : List Entry) (from mid to now flushed then : Option (List ℕ)) (chunk : List ℕ) (read_failed : Bool)
    → Reads alone start script log from mid now → Appends now flushed script.output.pending.items → output.pending.items ≡ [] → Consumes mid to chunk
    → ((start : RunStart) (bytes : List ℕ) → IsAfterBytes alone start (record script { output = output }) log flushed bytes → StopsIn alone start fault then (bytes ++ chunk))
    → Stops alone start fault from to then read_failed
stops_in_chunk alone start fault script output log from mid to now flushed then chunk read_failed reads wrote none more stop =
    let stops = stop start reads.bytes (after_flush alone start script output log now flushed reads.bytes wrote none reads.after) in
    record {
      script = reads.bytes ++ chunk;
      consumed = Consumes-trans from mid to reads.bytes chunk reads.consumed more;
      answered = inl stops.stopped;
      cause = λ read. inr (stops.beyond read);
    }

pub stops_at_end : (fault : ScriptFault) (alone : Bool) (start : RunStart) (script : Script) (log : List Entry) (from to now then : Option (List ℕ)) (read_failed : Bool)
    → Reads alone start script log from to now → IsAtEnd to
    → ((start : RunStart) (bytes : List ℕ) → IsAfterBytes alone start script log now bytes → StoppedAtLast alone start fault then bytes)
    → Stops alone start fault from to then read_failed
stops_at_end fault alone start script log from to now then read_failed reads end stop =
    let last = stop start reads.bytes reads.after in
    record {
      script = reads.bytes;
      consumed = reads.consumed;
      answered = inr (end, last);
      cause = λ read. absurd (last.other read);
    }

-- no read failed
pub no_read_failed : (fault : ScriptFault) (before after : Bool) → after ≡ before → ReadFailedBy fault before after
no_read_failed Read before after kept = tt
no_read_failed Write before after kept = kept
no_read_failed Gone before after kept = kept

-- ---- where nobody else adds to the log

-- no line is left
never_left : (format : Format) (lines : List (List ℕ)) → StartsLeft true format lines → ⊥
never_left format [] left = left
never_left format (line ∷ lines) left = let no : true ≡ false = left.shared in cc

pub never_gone : (format : Format) (bounds : Bounds) (log : List Entry) (before after : Account) → WasStopped true format bounds log before after Gone → ⊥
never_gone format bounds log before after was = elim was.stopped.answered [
  | inl within ↦ never_left format within.others (within.left refl)
  | inr ended ↦ never_left format ended.1.stopped.others (ended.1.stopped.left refl)
]

-- What is known of a reader and a writer, and which of their calls failed while a script was answered.
use Rattle.std.specs.Prelude.{◌≡◌, ℕ, List, Bool, true, Option, Result}
use Rattle.std.specs.Result.{MatchResult}
use Rattle.pgp_core.specs.Streams.{SinkState, SourceState}
use Rattle.pgp_core.specs.declared.fault.ScriptFault.{ScriptFault}
use Rattle.pgp_core.specs.declared.fault.ScriptFault.TheVariants.{Read, Write, Gone}

-- what is known of a reader and a writer: the bytes that are still to be read, the bytes that were written, and whether a
-- read failed, and a write
pub record Account : Type 0 where
  pub remaining : Option (List ℕ)
  pub contents : Option (List ℕ)
  pub read_failed : Bool
  pub write_failed : Bool

abbrev pub account : SourceState → SinkState → Account
account source sink =
    record { remaining = source.remaining; contents = sink.contents; read_failed = source.failed; write_failed = sink.failed }

-- No call failed: what was known of failures is what there is to know. Where a call had failed before, that is still known, and
-- no account says whether one failed again.
abbrev pub NoCallFailed : (before after : Account) → Type 0
NoCallFailed before after = (after.read_failed ≡ before.read_failed) × (after.write_failed ≡ before.write_failed)

-- Whether a read failed, where this fault ended the answering: only at `Read` can one have. None need have, since a script that
-- is too large ends so too.
abbrev pub ReadFailedBy : ScriptFault → (before after : Bool) → Type 0
ReadFailedBy Read before after = Unit {0}
ReadFailedBy Write before after = after ≡ before
ReadFailedBy Gone before after = after ≡ before

-- Whether a write failed, where this fault ended the answering: at `Write` one did, and else none.
abbrev pub WriteFailedBy : ScriptFault → (before after : Bool) → Type 0
WriteFailedBy Read before after = after ≡ before
WriteFailedBy Write before after = after ≡ true
WriteFailedBy Gone before after = after ≡ before

-- which calls can have failed, where this fault ended the answering
abbrev pub FailedBy : ScriptFault → (before after : Account) → Type 0
FailedBy fault before after =
    ReadFailedBy fault before.read_failed after.read_failed × WriteFailedBy fault before.write_failed after.write_failed

-- whether a read failed in a call that ended so: in one that succeeded none did
abbrev pub ReadsFailed : {T : Type 0} → Result T ScriptFault → (before after : Bool) → Type 0
ReadsFailed result before after = MatchResult result (λ _. after ≡ before) (λ fault. ReadFailedBy fault before after)

-- the same of a write
abbrev pub WritesFailed : {T : Type 0} → Result T ScriptFault → (before after : Bool) → Type 0
WritesFailed result before after = MatchResult result (λ _. after ≡ before) (λ fault. WriteFailedBy fault before after)

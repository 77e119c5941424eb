-- What is printed of a script.
use Rattle.std.specs.Prelude.{◌≡◌, ℕ, List, Option, Some, None, Bool, if◌then◌else◌}
use Rattle.std.specs.Io.KnownBytes.{Appends}
use Rattle.pgp_ids.specs.declared.entry.Entry.{Entry}
use Rattle.pgp_ids.specs.declared.pg_id.PgId.{PgId}
use Rattle.pgp_group.specs.View.{scratch}
use Rattle.pgp_lines.specs.declared.command.format.Format.{Format}
use Rattle.pgp_core.specs.Output.{FrontWent}
use Rattle.pgp_core.specs.declared.whole.WholeFault.TheVariants.{Read, TooLarge, Memory}
use Rattle.pgp_group_words.specs.Json.{advice_json}
use Rattle.pgp_group_words.specs.Text.{Text}
use Rattle.pgp_group_words.specs.Words.{words_of}
use Rattle.pgp_group_words.specs.declared.advice.Advice.{Advice}
use Rattle.pgp_group_words.specs.declared.offset.EpochOffset.{EpochOffset}
use Rattle.pgp_whole.specs.Advice.{IsAdvice}
use Rattle.pgp_whole.specs.Reading.{IsLogOfScript}
use Rattle.pgp_whole.specs.Summary.{summary_of}
use Rattle.pgp_whole.specs.SummaryText.{summary_text}
use Rattle.pgp_whole.specs.declared.subcommand.Question.{Question}
use Rattle.pgp_whole.specs.declared.subcommand_fault.SubcommandFault.{SubcommandFault}
use Rattle.pgp_whole.specs.declared.subcommand_fault.SubcommandFault.TheVariants.{Script, Write, UnknownGroup}

-- by how much epochs are ahead in what is asked for
abbrev pub offset_of : Question → EpochOffset
offset_of asked = record { 0 = asked.epoch_offset }

-- as JSON, or else in words
abbrev pub group_text : Bool → Advice → EpochOffset → Text
group_text json advice offset = if json then advice_json advice offset else words_of advice offset

-- this text says what there is to say of the group by the log
pub record IsGroupText (log : List Entry) (pg : PgId) (losses json : Bool) (offset : EpochOffset) (text : Text) : Type 0 where
  pub advice : Advice
  pub is : IsAdvice log pg losses offset advice
  pub says : text ≡ group_text json advice offset

-- the text says this of the group, or else of all
abbrev pub SaysOf : Option PgId → List Entry → Question → Text → Type 0
SaysOf None log asked text = text ≡ summary_text asked.json (summary_of log) (offset_of asked)
SaysOf (Some pg) log asked text = IsGroupText log pg asked.losses asked.json (offset_of asked) text

-- the text says what is asked for
abbrev pub SaysAsked : List Entry → Question → Text → Type 0
SaysAsked log asked text = SaysOf asked.pg log asked text

-- The reader gave a script to its end, and the writer got the text that says what is asked for by the log that the script makes:
-- of a group what there is to say of it, or else the summary.
pub record IsExplained (asked : Question) (from to start now : Option (List ℕ)) : Type 0 where
  pub log : List Entry
  pub log_is : IsLogOfScript asked.format log from to
  pub text : Text
  pub says : SaysAsked log asked text
  pub went : Appends start now text

-- The same, where a write failed: a first part of the text went out.
pub record IsExplainedInPart (asked : Question) (from to start now : Option (List ℕ)) : Type 0 where
  pub log : List Entry
  pub log_is : IsLogOfScript asked.format log from to
  pub text : Text
  pub says : SaysAsked log asked text
  pub front : FrontWent start now text

-- The map of the log that the script makes has no group of this name.
pub record HasNoGroup (format : Format) (pg : PgId) (from to : Option (List ℕ)) : Type 0 where
  pub log : List Entry
  pub log_is : IsLogOfScript format log from to
  pub none : scratch log pg ≡ None

-- why there is no text: the map doesn't have the group that is asked about, or there was no memory
abbrev pub StopsText : SubcommandFault → List Entry → Option PgId → Type 0
StopsText (Script Read) log pg = ⊥
StopsText (Script TooLarge) log pg = ⊥
StopsText (Script Memory) log pg = Unit {0}
StopsText Write log pg = ⊥
StopsText (UnknownGroup asked) log pg = (pg ≡ Some asked) × (scratch log asked ≡ None)

-- The shapes of members, versions and log entries in lines, in this project's own format over JSON.
use Rattle.std.specs.Prelude.{ℕ, List, length, codes, Option, Some, None, option_and_then, if◌then◌else◌}
use Rattle.std.specs.Str.{bytes_eq}
use Rattle.serde_json.specs.Data.{Data}
use Rattle.serde_json.specs.Find.{as_str}
use Rattle.pgp_ids.specs.declared.member.Member.{Member}
use Rattle.pgp_ids.specs.declared.log_entry.Change.{Change}
use Rattle.pgp_ids.specs.declared.log_entry.Change.TheVariants.{Modify, Delete}
use Rattle.pgp_ids.specs.declared.log_entry.LogEntry.{LogEntry}
use Rattle.pgp_ids.specs.declared.pg_id.PgId.{PgId}
use Rattle.pgp_ids.specs.declared.version.Version.{Version}
use Rattle.pgp_lines.specs.Shapes.{is_between, pair_in, quadruple_in, list_in, ◌>>=◌}
use Rattle.pgp_lines.specs.Ids.{osd_in, slot_in, word_in, pg_id_in}

-- [pool, pg]
abbrev pub pg_in : Data → Option PgId
pg_in d = do
  parts ← pair_in d
  pg_id_in parts.0 parts.1

-- [device, slot]
abbrev pub member_in : Data → Option Member
member_in d = do
  parts ← pair_in d
  osd ← osd_in parts.0
  slot ← slot_in parts.1
  Some (record { osd = osd; slot = slot })

-- the parts of a version
abbrev pub version_of : Data → Data → Option Version
version_of epoch v = do
  epoch ← word_in epoch
  v ← word_in v
  Some (record { epoch = epoch; v = v })

-- [epoch, v]
abbrev pub version_in : Data → Option Version
version_in d = do
  parts ← pair_in d
  version_of parts.0 parts.1

-- the name of an object, 1 to 255 bytes
abbrev pub name_in : Data → Option (List ℕ)
name_in d = option_and_then (λ name. if is_between 1 255 (length name) then Some name else None) (as_str d)

-- the change of this word
abbrev pub change_named : List ℕ → Option Change
change_named word =
    if bytes_eq word (codes "modify") then Some Modify else (if bytes_eq word (codes "delete") then Some Delete else None)

abbrev pub change_in : Data → Option Change
change_in d = option_and_then change_named (as_str d)

-- the parts of a log entry
abbrev pub log_entry_of : Data → Data → Data → Data → Option LogEntry
log_entry_of epoch v change name = do
  version ← version_of epoch v
  change ← change_in change
  name ← name_in name
  Some (record { version = version; change = change; object = name })

-- [epoch, v, "modify" or "delete", name]
abbrev pub log_entry_in : Data → Option LogEntry
log_entry_in d = do
  parts ← quadruple_in d
  log_entry_of parts.0 parts.1 parts.2 parts.3

-- 1 to 256 log entries
abbrev pub log_in : Data → Option (List LogEntry)
log_in d = list_in 1 256 log_entry_in d

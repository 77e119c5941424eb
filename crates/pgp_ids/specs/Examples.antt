-- Values that the worked examples of several crates are about.
use Rattle.std.specs.Prelude.{ℕ, true}
use Rattle.pgp_ids.specs.declared.member.Member.{Member}
use Rattle.pgp_ids.specs.declared.report.Info.{Info}
use Rattle.pgp_ids.specs.declared.version.Version.{Version}

-- a device in a slot
abbrev pub in_slot : ℕ → ℕ → Member
in_slot osd slot = record { osd = osd; slot = slot }

-- the version of this epoch and number
abbrev pub at : ℕ → ℕ → Version
at epoch v = record { epoch = epoch; v = v }

-- the info of a complete copy with no write, which never served, of device 0 in slot 0 of group 0 of pool 1, sent in epoch 1
abbrev pub empty_copy : Info
empty_copy =
    record {
      pg = record { pool = 1; pg = 0 };
      member = in_slot 0 0;
      stamp = 1;
      les = 0;
      history_les = 0;
      last_epoch_clean = 0;
      last_update = at 0 0;
      log_tail = at 0 0;
      complete = true;
    }

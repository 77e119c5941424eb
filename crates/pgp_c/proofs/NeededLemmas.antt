-- What C is told of the entries that stay.
use Rattle.std.proofs.Common.{◌≡◌, ℕ, List, Bool, length, map, ap, ◌∙◌}
use Rattle.pgp_compact.specs.Compacted.{are_needed_in, is_needed}
use Rattle.pgp_compact.proofs.NeededLemmas.{are_needed-length}
use Rattle.pgp_ids.specs.declared.entry.Entry.{Entry}
use Rattle.pgp_c.specs.Exports.{put_into, put_status}
use Rattle.pgp_c.specs.Needed.{PutsNeeded, flag}
use Rattle.pgp_c.specs.Status.{status_number}

pub needs-put : (log : List Entry) (choices : List Bool) (old new : List ℕ) (count status : ℕ) → choices ≡ are_needed_in log
    → new ≡ put_into (map flag choices) old → count ≡ length choices → status ≡ status_number (put_status (map flag choices) old)
    → PutsNeeded log old new count status
needs-put log choices old new count status is room many done = record {
  room = room ∙ ap (λ c. put_into (map flag c) old) is;
  count_is = many ∙ ap length is ∙ are_needed-length (is_needed log) log;
  status_is = done ∙ ap (λ c. status_number (put_status (map flag c) old)) is;
}

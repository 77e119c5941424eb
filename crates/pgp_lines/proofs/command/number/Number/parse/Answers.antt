use Rattle.std.proofs.Common.{◌≡◌, get_or, false, ◌==◌, Some, sym, ap, ◌∙◌, rules, tests}
use Rattle.serde_json.specs.Data.{unsigned}
use Rattle.serde_json.specs.Read.{number_of}
use Rattle.pgp_lines.proofs.NumberLemmas.{number_of-digits, no_plus}
use Rattle.pgp_lines.proofs.command.number.Number.parse.Goals as goal

pub returns-in-Ok : goal.returns-in-Ok
returns-in-Ok c =
    let s = c.as_bytes-bytes.result.now in
    let bare : (get_or s 0 0 == 43) ≡ false = search (rules, tests) in
    let read = rw (no_plus s bare) at c.in-Ok.ensures in
    ap (λ n. Some (unsigned n)) read.1 ∙ sym (number_of-digits s read.0.0 read.0.1) ∙ ap number_of c.as_bytes-bytes.ensures.value

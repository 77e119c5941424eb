use Rattle.pgp_compact.proofs.Common.{flat_map, numbers, reports_of, ◌∙◌}
use Rattle.pgp_compact.proofs.LaterLemmas.{numbers-are}
use Rattle.pgp_compact.proofs.later.Later.replaces.Goals as goal

pub returns : goal.returns
returns c = λ log later kept.
    let noted = rw (c.number_of-number.ensures, c.number.ensures) at c.reaches.ensures (flat_map numbers (reports_of later)) kept.numbers in
    noted ∙ numbers-are c.args.report.now c.args.entry.now.version.v (reports_of later)

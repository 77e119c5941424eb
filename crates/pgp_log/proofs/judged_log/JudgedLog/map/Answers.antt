use Rattle.pgp_log.proofs.Common.{List, map, arc_value, Entry, incs_of}
use Rattle.pgp_log.proofs.LogLemmas.{legal-checked}
use Rattle.pgp_log.proofs.judged_log.JudgedLog.map.Goals as goal

pub returns-clause-checked : goal.returns-clause-checked
returns-clause-checked c =
    let log : List Entry = map arc_value c.self.inside.entries.items in
    record { incs = incs_of log; is = c.map.ensures log c.self.invariant; checked = legal-checked log c.self.invariant.legal }

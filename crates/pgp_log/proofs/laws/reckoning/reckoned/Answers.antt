use Rattle.pgp_log.proofs.Common.{◌++◌, is_after}
use Rattle.pgp_log.proofs.laws.reckoning.reckoned.Goals as goal

pub returns : goal.returns
returns c = record {
  interval = λ log later pg g after interval legal is served then'.
      let checked = c.legal_logs_are_checked_and_short.ensures.checked (log ++ later) legal in
      c.reckoned.ensures.interval g after later interval (is_after log later pg g after checked is then') served;
  again = λ log later pg g after legal is served then'.
      let checked = c.legal_logs_are_checked_and_short.ensures.checked (log ++ later) legal in
      c.reckoned.ensures.again g after later (is_after log later pg g after checked is then') served;
}

use Rattle.pgp_c.proofs.open_lines.read_line.Goals as goal

pub returns-clause-refused : goal.returns-clause-refused
returns-clause-refused c = record { outcome = c.in_ok-outcome.outcome; is = c.in_ok-outcome.ensures.outcome; refused_is = c.is_refusal.ensures }

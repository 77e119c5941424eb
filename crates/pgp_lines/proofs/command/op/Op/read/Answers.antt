use Rattle.pgp_lines.proofs.command.op.Op.read.Goals as goal

pub returns-in-Trace : goal.returns-in-Trace
returns-in-Trace c = rw c.in-Trace.is c.read_trace.ensures

use Rattle.pgp_group.proofs.Common.{incs_of}
use Rattle.pgp_group.proofs.group.Group.begin.Goals as goal

pub returns : goal.returns
returns c = λ log counts is there now silent. c.begin_members.ensures log counts is there now silent (c.up_acting-members.ensures (incs_of log) is)

use Rattle.std.proofs.Common.{take}
use Rattle.pgp_info.specs.Best.{HasDistinctMembers}
use Rattle.pgp_info.specs.Lead.{IsLead}
use Rattle.pgp_info.proofs.lead.Lead.among.Given as goal

abbrev pub invariant-loop-info : goal.invariant-loop-info
invariant-loop-info g l = HasDistinctMembers l.infos → IsLead (g.P.Prefer.better l.prefer) (take l.info-index l.infos) l.lead

use Rattle.std.proofs.Common.{◌-◌, length, arith}
use Rattle.pgp_prior.proofs.MemberLemmas.{members-slots}
use Rattle.pgp_prior.proofs.members.members_of.Goals as goal

pub returns-clause-slots : goal.returns-clause-slots
returns-clause-slots c = members-slots c.args.by_place c.as_slice.result.now 0 (length c.as_slice.result.now - 0) 16 (omega (arith, c.as_slice.ensures.within))

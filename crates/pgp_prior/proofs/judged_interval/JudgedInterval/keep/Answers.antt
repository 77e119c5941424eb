use Rattle.std.proofs.Common.{refl}
use Rattle.pgp_prior.specs.Members.{members_of}
use Rattle.pgp_prior.proofs.KnownStatusLemmas.{status-known}
use Rattle.pgp_prior.proofs.KeptLemmas.{judged}
use Rattle.pgp_prior.proofs.judged_interval.JudgedInterval.keep.Goals as goal

pub returns-clause-kept : goal.returns-clause-kept
returns-clause-kept g c = λ status agree.
    let by_place = g.R.Recoverable.by_place c.args.code.now in
    let items = rw c.by_place.ensures at c.in_ok-known.ensures in
    judged by_place (g.R.Recoverable.enough c.args.code.now) (g.met.R.Recoverable.monotone c.args.code.now) status c.args.les
    (record { past = c.args.past; statuses = c.in_ok-known.known; blocks = c.blocks-blocks.result })
    (λ member in'. rw (items, status-known (g.S.StatusOf.status_of c.args.statuses.now) c.args.past.first (members_of by_place c.args.past.members.acting) member in', agree member in') refl)
    c.blocks-blocks.ensures

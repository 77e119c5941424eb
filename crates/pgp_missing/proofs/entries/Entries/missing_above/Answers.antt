use Rattle.std.proofs.Common.{◌≡◌, rules, map}
use Rattle.pgp_missing.specs.Missing.{by_object}
use Rattle.pgp_missing.specs.Kept.{named}
use Rattle.pgp_missing.specs.Log.{between}
use Rattle.pgp_missing.proofs.EntryLemmas.{put_named, missing_laws}
use Rattle.pgp_missing.proofs.entries.Entries.missing_above.Goals as goal

pub loop-number-preserved : goal.loop-number-preserved
loop-number-preserved c =
    rw (c.in_ok-insert.ensures.entries, put_named, c.in_ok-clone.ensures.value) (rw c.in-Some.ensures.steps at c.loop-number.invariant)

pub returns : goal.returns
returns c =
    let newest : map named c.loop-number.newest.entries ≡ by_object (between c.args.above c.args.last c.args.self.now) = rw c.in-None.ensures.steps.0 at c.loop-number.invariant in
    search (rules, missing_laws, newest)

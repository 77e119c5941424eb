use Rattle.pgp_shard.proofs.Common.{sym, subst, incs_of, IsRawSet}
use Rattle.pgp_shard.proofs.KeptLemmas.{kept_raw-stays, raw-anew, temp-anew}
use Rattle.pgp_shard.proofs.kept_group.KeptGroup.place_anew.Goals as goal

pub returns-then-places_anew-clause-raw : goal.returns-then-places_anew-clause-raw
returns-then-places_anew-clause-raw c = λ log is step.
    raw-anew log c.args.inc.now c.args.before.now c.args.after.now c.args.self.now.pg _ step c.raw-self.ensures

pub returns-else-places_anew-clause-raw : goal.returns-else-places_anew-clause-raw
returns-else-places_anew-clause-raw c = λ log is step.
    kept_raw-stays log c.args.inc.now c.args.before.now c.args.after.now c.args.self.now is step
    (c.places_anew.ensures.stays c.if-places_anew.false (incs_of log) step.before_is (subst (IsRawSet (incs_of log) c.args.self.now.pg) (sym c.as_slice.ensures.value) is.raw_is) step.after_is)

pub returns-then-places_anew-clause-temp : goal.returns-then-places_anew-clause-temp
returns-then-places_anew-clause-temp c = λ log step.
    temp-anew log c.args.inc.now c.args.before.now c.args.after.now c.args.self.now.pg _ step c.copied_temp-self.ensures

pub returns-else-places_anew-clause-temp : goal.returns-else-places_anew-clause-temp
returns-else-places_anew-clause-temp c = λ log step.
    temp-anew log c.args.inc.now c.args.before.now c.args.after.now c.args.self.now.pg _ step c.copied_temp-self.ensures

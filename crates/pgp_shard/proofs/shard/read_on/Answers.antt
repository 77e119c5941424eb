use Rattle.pgp_shard.proofs.Common.{[], ◌∷◌, ◌++◌, Option, Some, refl, sym, subst, MarksOnlyTouched, shard_with, Groups}
use Rattle.pgp_shard.proofs.KeptBesideLemmas.{groups-there, marks-away}
use Rattle.pgp_log.proofs.LogLemmas.{legal-snoc}
use Rattle.pgp_shard.proofs.shard.read_on.Goals as goal

pub absorb-requires : goal.absorb-requires
absorb-requires c = record { log = c.requires.log; is = groups-there c.args.owner c.requires.log c.args.kept.now c.in-Some.groups c.requires.is c.in-Some.is; fits = c.requires.fits }

pub returns-in_default-clause-is : goal.returns-in_default-clause-is
returns-in_default-clause-is c = λ log is fit. record { legal = legal-snoc log c.args.entry.now is.legal fit; groups_are = rw c.in_default.is tt }

pub returns-in_default-clause-marks : goal.returns-in_default-clause-marks
returns-in_default-clause-marks c = λ log is fit. rw c.in_default.is (marks-away c.args.owner log c.args.entry.now fit)

pub returns-in-Ok-clause-is : goal.returns-in-Ok-clause-is
returns-in-Ok-clause-is c = λ log is fit. record {
  legal = legal-snoc log c.args.entry.now is.legal fit;
  groups_are = c.in-Ok.ensures.ok log (groups-there c.args.owner log c.args.kept.now c.in-Some.groups is c.in-Some.is) fit;
}

pub returns-in-Ok-clause-marks : goal.returns-in-Ok-clause-marks
returns-in-Ok-clause-marks c = λ log is fit.
    let owner = c.args.owner in
    let new = c.args.entry.now in
    let done = c.in-Ok.ensures in
    subst (λ (o : Option Groups). MarksOnlyTouched new (shard_with owner log o) (shard_with owner (log ++ new ∷ []) (Some c.absorb.new.self))) (sym c.in-Some.is)
    (record {
      kept = done.kept.marks;
      others = done.marks log (groups-there owner log c.args.kept.now c.in-Some.groups is c.in-Some.is) fit;
      there = refl;
      worked = done.kept.worked;
    })

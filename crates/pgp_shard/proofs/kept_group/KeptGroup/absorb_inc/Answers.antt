use Rattle.pgp_shard.proofs.Common.{◌++◌, [], ◌∷◌, None, sym, ◌∙◌, subst, IsKeptOf, KeptGroup}
use Rattle.pgp_ids.specs.declared.entry.Entry.TheVariants as entry
use Rattle.pgp_shard.proofs.KeptLemmas.{kept-there}
use Rattle.pgp_shard.proofs.StillLemmas.{kept-marked, kept-stays, kept-unseen}
use Rattle.pgp_shard.proofs.kept_group.KeptGroup.absorb_inc.Goals as goal
use Rattle.pgp_shard.proofs.kept_group.KeptGroup.absorb_inc.Goals.{then-is_marked-via-then-is_marked, then-is_marked-via-else-is_marked+then-not-is_touched, then-may_move+in_ok-move_on, else-may_move+else-is_marked+else-not-is_touched}

pub may_move-requires : goal.may_move-requires
may_move-requires c = kept-there c.requires.log c.args.inc.now c.args.before.now c.args.after.now c.args.self.now c.requires.is c.requires.step

pub returns-then-is_marked-clause-ok : goal.returns-then-is_marked-clause-ok
returns-then-is_marked-clause-ok c = λ log is step.
    let still = c.may_move.ensures.stays c.if-may_move.false log is step in
    elim c.then-is_marked.branch [
      | then-is_marked-via-then-is_marked w ↦
          kept-unseen log c.args.inc.now c.args.before.now c.args.after.now c.args.self.now (sym c.is_marked.ensures ∙ w.if-is_marked.true) step is still
      | then-is_marked-via-else-is_marked+then-not-is_touched w ↦
          kept-stays log c.args.inc.now c.args.before.now c.args.after.now c.args.self.now step is (sym (w.is_touched.ensures log is) ∙ w.if-not-is_touched.true)
    ]

pub returns-clause-ok : goal.returns-clause-ok
returns-clause-ok c = λ log is step.
    elim c.if-may_move.branch [
      | then-may_move+in_ok-move_on w ↦
          subst (λ (kept : KeptGroup). IsKeptOf (log ++ entry.Inc c.args.inc.now ∷ []) (record kept { view = None })) (sym w.self-is) (w.in_ok-move_on.ensures.ok log is step)
      | else-may_move+else-is_marked+else-not-is_touched w ↦
          subst (λ (kept : KeptGroup). IsKeptOf (log ++ entry.Inc c.args.inc.now ∷ []) (record kept { view = None })) (sym w.self-is)
          (kept-marked log c.args.inc.now c.args.before.now c.args.after.now c.args.self.now step is (c.may_move.ensures.stays w.if-may_move.false log is step))
    ]

use Rattle.pgp_shard.proofs.Common.{◌≡◌, true, ◌&&◌, cond, refl, sym, ap, ◌∙◌, incs_of, lacks_view, worked_count}
use Rattle.pgp_shard.proofs.KeptLemmas.{group-still, kept-anew, kept-worked_out, view-counts}
use Rattle.pgp_shard.proofs.kept_group.KeptGroup.renew.Goals as goal

pub returns-in_err-view-clause-kept : goal.returns-in_err-view-clause-kept
returns-in_err-view-clause-kept c = λ log is made long.
    let old = c.args.self.now in
    let stood = group-still log old old.pg c.stay.new.self c.epoch.result is refl c.stay.ensures.is (c.epoch.ensures (incs_of log) made) in
    kept-anew log old c.view.new.self is (c.view.ensures.same log old.pg stood made)

pub returns-in_ok-view-clause-kept : goal.returns-in_ok-view-clause-kept
returns-in_ok-view-clause-kept c = λ log is made long.
    let old = c.args.self.now in
    let stood = group-still log old old.pg c.stay.new.self c.epoch.result is refl c.stay.ensures.is (c.epoch.ensures (incs_of log) made) in
    kept-worked_out log old c.view.new.self c.in_ok-view.field-0 is (c.view.ensures.same log old.pg stood made)
    (c.in_ok-view.ensures.view log old.pg stood made long)

pub returns-in_ok-view-clause-worked : goal.returns-in_ok-view-clause-worked
returns-in_ok-view-clause-worked c = λ log is made long.
    let old = c.args.self.now in
    let stood = group-still log old old.pg c.stay.new.self c.epoch.result is refl c.stay.ensures.is (c.epoch.ensures (incs_of log) made) in
    let marked : lacks_view old ≡ true = sym c.is_marked.ensures ∙ c.if-is_marked.true in (
      (λ lacks. marked),
      view-counts log old.pg c.in_ok-view.field-0 (c.in_ok-view.ensures.view log old.pg stood made long) ∙ long
          ∙ sym (ap (λ b. cond (b && true) c.args.count (worked_count old)) marked),
    )

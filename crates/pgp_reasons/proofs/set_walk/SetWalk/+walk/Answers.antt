use Rattle.std.proofs.Common.{◌≡◌, [], ◌++◌, length, true, false, ap, ◌∙◌, refl, arith, append-nil}
use Rattle.std.proofs.lemmas.Grind.{common_steps}
use Rattle.std.proofs.lemmas.Result.{IfOk-weaker, on_ok_weaker}
use Rattle.pgp_reasons.specs.Smallest.{smallest_with}
use Rattle.pgp_reasons.proofs.LookLemmas.{with-first, counted-look}
use Rattle.pgp_reasons.proofs.WalkLemmas.{said-is, first-none, none-past, none-too_few, on-stopped, on-then, on-short, stop-first, stop-then}
use Rattle.pgp_reasons.proofs.set_walk.SetWalk.+walk.Goals as goal

pub walk-returns-in-Some-true-clause-found : goal.walk-returns-in-Some-true-clause-found
walk-returns-in-Some-true-clause-found g t c =
    let enough = g.E.Enough.enough c.args.judge.now in
    let is : enough c.args.chosen.now.items ≡ true =
    said-is enough (c.as_slice-2.result.now ++ []) c.args.chosen.now.items c.in-Some-true.field-0 true (append-nil c.as_slice-2.result.now ∙ c.as_slice-2.ensures.value) c.in-Some-true.ensures.said c.in-Some-true.field-0-test in
    first-none c.args.self.now.sets (smallest_with enough c.args.chosen.now.items c.args.left c.args.rest.now) c.look.new.self.sets
    (none-past enough (g.met.E.Enough.monotone c.args.judge.now) c.args.chosen.now.items c.args.rest.now c.args.left (omega arith) is)
    c.look.ensures.kept

pub walk_on-returns-then-rest-left-clause-found : goal.walk_on-returns-then-rest-left-clause-found
walk_on-returns-then-rest-left-clause-found g t c =
    let enough = g.E.Enough.enough c.args.judge.now in
    first-none c.args.self.now.sets (smallest_with enough c.args.chosen.now.items c.args.left c.args.rest.now) c.args.self.now.sets
    (none-too_few enough c.args.chosen.now.items c.args.left c.args.rest.now c.if-rest-left.true) refl

pub walk_on-returns-then-not-whole-clause-found : goal.walk_on-returns-then-not-whole-clause-found
walk_on-returns-then-not-whole-clause-found g t c =
    on-stopped (g.E.Enough.enough c.args.judge.now) c.args.chosen.now.items c.push.new.self.items c.pop.new.self.items c.args.left c.in-Some.first.now c.args.rest.now c.in-Some.others.now
    c.args.self.now.sets c.walk.new.self.sets c.walk.new.self.sets c.in_ok-whole.whole
    c.requires c.in-Some.ensures.cases.0 c.in_ok-push.ensures.items (grind (arith, common_steps)) refl c.in_ok-whole.ensures.found

pub walk_on-returns-in-None-clause-found : goal.walk_on-returns-in-None-clause-found
walk_on-returns-in-None-clause-found g t c =
    on-stopped (g.E.Enough.enough c.args.judge.now) c.args.chosen.now.items c.push.new.self.items c.pop.new.self.items c.args.left c.in-Some.first.now c.args.rest.now c.in-Some.others.now
    c.args.self.now.sets c.walk.new.self.sets c.look.new.self.sets c.in_ok-whole.whole
    c.requires c.in-Some.ensures.cases.0 c.in_ok-push.ensures.items (grind (arith, common_steps)) c.in-None.ensures.kept c.in_ok-whole.ensures.found

pub walk_on-returns-in-Some-true-clause-found : goal.walk_on-returns-in-Some-true-clause-found
walk_on-returns-in-Some-true-clause-found g t c =
    IfOk-weaker c.walk_on.result _ _ (λ whole found.
    on-then (g.E.Enough.enough c.args.judge.now) c.args.chosen.now.items c.push.new.self.items c.pop.new.self.items c.args.left c.in-Some.first.now c.args.rest.now c.in-Some.others.now
    c.args.self.now.sets c.walk.new.self.sets c.look.new.self.sets c.in_ok-whole.whole
    c.requires c.in-Some.ensures.cases.0 c.in_ok-push.ensures.items (grind (arith, common_steps)) c.in-Some-true.ensures.kept c.in_ok-whole.ensures.found
    whole c.walk_on.new.self.sets c.if-not-whole.false found) c.walk_on.ensures.found

pub walk_on-returns-in-Some-false-clause-found : goal.walk_on-returns-in-Some-false-clause-found
walk_on-returns-in-Some-false-clause-found g t c =
    let enough = g.E.Enough.enough c.args.judge.now in
    let short : enough (c.pop.new.self.items ++ c.in-Some.others.now) ≡ false =
    said-is enough (c.as_slice.result.now ++ c.in-Some.others.now) (c.pop.new.self.items ++ c.in-Some.others.now) c.in-Some-false.field-0 false (ap (λ osds. osds ++ c.in-Some.others.now) c.as_slice.ensures.value) c.in-Some-false.ensures.said c.in-Some-false.field-0-test in
    on-short enough c.args.chosen.now.items c.push.new.self.items c.pop.new.self.items c.args.left c.in-Some.first.now c.args.rest.now c.in-Some.others.now
    c.args.self.now.sets c.walk.new.self.sets c.look.new.self.sets c.in_ok-whole.whole
    c.requires c.in-Some.ensures.cases.0 c.in_ok-push.ensures.items (grind (arith, common_steps)) c.in-Some-false.ensures.kept c.in_ok-whole.ensures.found
    (g.met.E.Enough.monotone c.args.judge.now) c.if-not-whole.false short

-- ---- how many sets were judged

pub walk-returns-then-left-eq0-clause-counted : goal.walk-returns-then-left-eq0-clause-counted
walk-returns-then-left-eq0-clause-counted g t c =
    on_ok_weaker c.list_if_smallest.result (λ e. rw c.if-left-eq0.true (omega (arith, e, ap length c.as_slice.ensures.value))) c.list_if_smallest.ensures.counted

pub walk-returns-in-Some-false-clause-counted : goal.walk-returns-in-Some-false-clause-counted
walk-returns-in-Some-false-clause-counted g t c = on_ok_weaker c.walk_on.result (λ e. omega (arith, e, c.look.ensures.counted)) c.walk_on.ensures.counted

pub walk_on-returns-then-not-whole-clause-counted : goal.walk_on-returns-then-not-whole-clause-counted
walk_on-returns-then-not-whole-clause-counted g t c =
    counted-look c.args.chosen.now.items c.push.new.self.items c.pop.new.self.items c.args.left c.in-Some.first.now c.args.rest.now c.in-Some.others.now
    c.requires c.in-Some.ensures.cases.0 c.in_ok-push.ensures.items (grind (arith, common_steps))
    c.args.self.now.looks c.walk.new.self.looks c.walk.new.self.looks c.in_ok-whole.ensures.counted (omega arith)

pub walk_on-returns-in-Some-true-clause-counted : goal.walk_on-returns-in-Some-true-clause-counted
walk_on-returns-in-Some-true-clause-counted g t c =
    on_ok_weaker c.walk_on.result (λ e. omega (
      arith,
      e,
      c.in_ok-whole.ensures.counted,
      c.look.ensures.counted,
      with-first c.args.chosen.now.items c.push.new.self.items c.pop.new.self.items c.args.left c.in-Some.first.now c.args.rest.now c.in-Some.others.now
          c.requires c.in-Some.ensures.cases.0 c.in_ok-push.ensures.items (grind (arith, common_steps)),
    )) c.walk_on.ensures.counted

pub walk_on-returns-in-None-clause-counted : goal.walk_on-returns-in-None-clause-counted
walk_on-returns-in-None-clause-counted g t c =
    counted-look c.args.chosen.now.items c.push.new.self.items c.pop.new.self.items c.args.left c.in-Some.first.now c.args.rest.now c.in-Some.others.now
    c.requires c.in-Some.ensures.cases.0 c.in_ok-push.ensures.items (grind (arith, common_steps))
    c.args.self.now.looks c.walk.new.self.looks c.look.new.self.looks c.in_ok-whole.ensures.counted c.look.ensures.counted

pub walk_on-returns-in-Some-false-clause-counted : goal.walk_on-returns-in-Some-false-clause-counted
walk_on-returns-in-Some-false-clause-counted g t c =
    counted-look c.args.chosen.now.items c.push.new.self.items c.pop.new.self.items c.args.left c.in-Some.first.now c.args.rest.now c.in-Some.others.now
    c.requires c.in-Some.ensures.cases.0 c.in_ok-push.ensures.items (grind (arith, common_steps))
    c.args.self.now.looks c.walk.new.self.looks c.look.new.self.looks c.in_ok-whole.ensures.counted c.look.ensures.counted

-- ---- why it stopped

pub walk_on-returns-then-not-whole-clause-stopped : goal.walk_on-returns-then-not-whole-clause-stopped
walk_on-returns-then-not-whole-clause-stopped g t c =
    λ _. stop-first (g.E.Enough.enough c.args.judge.now) c.args.chosen.now.items c.push.new.self.items c.pop.new.self.items c.args.left c.in-Some.first.now c.args.rest.now c.in-Some.others.now
    c.args.self.now.sets c.walk.new.self.sets c.walk.new.self.sets c.in_ok-whole.whole
    c.requires c.in-Some.ensures.cases.0 c.in_ok-push.ensures.items (grind (arith, common_steps)) refl c.in_ok-whole.ensures.found
    c.walk.new.self.looks (c.in_ok-whole.ensures.stopped c.if-not-whole.true)

pub walk_on-returns-in-Some-true-clause-stopped : goal.walk_on-returns-in-Some-true-clause-stopped
walk_on-returns-in-Some-true-clause-stopped g t c =
    IfOk-weaker c.walk_on.result _ _ (λ whole stopped no.
    stop-then (g.E.Enough.enough c.args.judge.now) c.args.chosen.now.items c.push.new.self.items c.pop.new.self.items c.args.left c.in-Some.first.now c.args.rest.now c.in-Some.others.now
    c.args.self.now.sets c.walk.new.self.sets c.look.new.self.sets c.in_ok-whole.whole
    c.requires c.in-Some.ensures.cases.0 c.in_ok-push.ensures.items (grind (arith, common_steps)) c.in-Some-true.ensures.kept c.in_ok-whole.ensures.found
    c.walk_on.new.self.looks c.walk_on.new.self.sets c.if-not-whole.false (stopped no)) c.walk_on.ensures.stopped

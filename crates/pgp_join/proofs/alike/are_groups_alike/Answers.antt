use Rattle.pgp_group.proofs.Common.{◌≡◌, true, false, All, All-contains, All-nil, refl, sym, ◌∙◌, subst, arith, true≢false, incs_of}
use Rattle.std.proofs.Common.{rules}
use Rattle.std.proofs.lemmas.Grind.{common_steps}
use Rattle.std.proofs.lemmas.List.Elements.{All-more}
use Rattle.pgp_join.specs.Alike.{IsGroupAlike}
use Rattle.pgp_join.proofs.CheckLemmas.{has-group}
use Rattle.pgp_join.proofs.alike.are_groups_alike.Goals as goal

pub loop-pg-init : goal.loop-pg-init
loop-pg-init c = (refl, (refl, All-nil (IsGroupAlike c.args.log.now c.args.other.now)))

pub loop-pg-preserved : goal.loop-pg-preserved
loop-pg-preserved c =
    let kept = c.loop-pg.invariant in
    let pg = c.pg-item.result in
    let passed : c.in_ok-is_group_alike.field-0 ≡ true = search rules in
    let alike : IsGroupAlike c.args.log.now c.args.other.now pg =
    subst (λ l. IsGroupAlike l c.args.other.now pg) kept.0 (subst (λ o. IsGroupAlike c.loop-pg.log o pg) kept.1.0 (c.in_ok-is_group_alike.ensures.alike.0 passed)) in (
      c.is_group_alike.ensures.same ∙ kept.0,
      (
        c.is_group_alike.ensures.other_same ∙ kept.1.0,
        All-more (IsGroupAlike c.args.log.now c.args.other.now) c.deref-pg-items.result.now c.loop-pg.pg-index pg c.loop-pg-test.true kept.1.1
            (subst (IsGroupAlike c.args.log.now c.args.other.now) c.pg-item.is alike),
      ),
    )

pub returns-then-not-branch-clause-alike : goal.returns-then-not-branch-clause-alike
returns-then-not-branch-clause-alike c =
    let kept = c.loop-pg.invariant in
    let pg = c.pg-item.result in
    let alike = c.in_ok-is_group_alike.ensures.alike in
    let failed : c.in_ok-is_group_alike.field-0 ≡ false = search rules in (
      λ passed. absurd (true≢false (sym passed)),
      λ all. absurd (true≢false (sym (alike.1 (subst (λ l. IsGroupAlike l c.loop-pg.other pg) (sym kept.0)
          (subst (λ o. IsGroupAlike c.args.log.now o pg) (sym kept.1.0) (all pg)))) ∙ failed)),
    )

pub returns-clause-alike : goal.returns-clause-alike
returns-clause-alike c =
    let kept = c.loop-pg.invariant in
    let all : All (IsGroupAlike c.args.log.now c.args.other.now) c.in_ok-groups.groups.items =
    subst (All (IsGroupAlike c.args.log.now c.args.other.now)) (grind (arith, common_steps)) kept.1.1 in (
      λ passed pg h now has has'. All-contains (IsGroupAlike c.args.log.now c.args.other.now) c.in_ok-groups.groups.items pg all
          (c.in_ok-groups.ensures (incs_of c.args.log.now) c.map.ensures pg (has-group c.args.log.now pg h has)) h now has has',
      λ all. refl,
    )

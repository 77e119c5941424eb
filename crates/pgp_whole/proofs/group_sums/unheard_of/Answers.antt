use Rattle.std.proofs.Common.{◌≡◌, ℕ, List, true, not, ◌&&◌, ◌||◌, nat_eq, nat_lt, ap, sym, ◌∙◌, subst}
use Rattle.std.specs.List.{list_any}
use Rattle.std.proofs.lemmas.List.{take_all}
use Rattle.std.proofs.lemmas.List.Folds.{list_any_more}
use Rattle.pgp_ids.specs.declared.member.Member.{Member}
use Rattle.pgp_ids.specs.declared.verdict.Verdict.TheVariants.{Waiting}
use Rattle.pgp_ids.specs.declared.view.View.{View}
use Rattle.pgp_lists.specs.Ordered.{IsAscending}
use Rattle.pgp_lists.proofs.Pairs.{AllPairs-nil}
use Rattle.pgp_group.specs.Heard.{has_member, heard}
use Rattle.pgp_whole.specs.Summary.{has_verdict}
use Rattle.pgp_whole.proofs.SummaryGroups.{is-view}
use Rattle.pgp_whole.proofs.SummaryUnheard.{ascends-plain, unheard-holds, unheard-none}
use Rattle.pgp_whole.proofs.group_sums.unheard_of.Goals as goal

pub loop-member-preserved : goal.loop-member-preserved
loop-member-preserved c =
    let i : ℕ = c.loop-member.member-index in
    let members : List Member = c.as_slice-member-items.result.now in
    let member : Member = c.member-item.result in
    record {
      ascends = c.in_ok-put_unheard.ensures.ascends;
      holds = λ log g osd viewed are.
          let test = λ (m : Member). not (has_member m (heard g)) && nat_eq osd m.osd in
          c.in_ok-put_unheard.ensures.holds log g osd viewed are
          ∙ (λ k. c.loop-member.invariant.holds log g osd viewed are k || test (c.member-item.is k))
          ∙ sym (list_any_more test members i member c.loop-member-test.true);
    }

pub returns-clause-ascends : goal.returns-clause-ascends
returns-clause-ascends c = ascends-plain c.loop-member.osds.items c.loop-member.invariant.ascends

pub returns-clause-holds : goal.returns-clause-holds
returns-clause-holds c = λ log g osd viewed are.
    let test = λ (m : Member). not (has_member m (heard g)) && nat_eq osd m.osd in
    let is = is-view log c.args.map.now c.args.pg.now c.args.view.now g viewed in
    let waits : has_verdict Waiting g ≡ true = sym (c.has_verdict.ensures g is) ∙ c.if-not-has_verdict.false in
    c.loop-member.invariant.holds log g osd viewed are
    ∙ ap (list_any test) (take_all c.loop-member.member-index c.as_slice-member-items.result.now c.loop-member-test.false ∙ c.as_slice-member-items.ensures ∙ ap (λ (v : View). v.probe) is)
    ∙ unheard-holds g osd waits

pub returns-then-not-has_verdict-clause-ascends : goal.returns-then-not-has_verdict-clause-ascends
returns-then-not-has_verdict-clause-ascends c = subst (IsAscending nat_lt) (sym c.new-osds.ensures.items) (AllPairs-nil (λ x y. nat_lt x y ≡ true))

pub returns-then-not-has_verdict-clause-holds : goal.returns-then-not-has_verdict-clause-holds
returns-then-not-has_verdict-clause-holds c = λ log g osd viewed are.
    let is = is-view log c.args.map.now c.args.pg.now c.args.view.now g viewed in
    ap (list_any (nat_eq osd)) c.new-osds.ensures.items
    ∙ unheard-none g osd (sym (c.has_verdict.ensures g is) ∙ c.if-not-has_verdict.true)

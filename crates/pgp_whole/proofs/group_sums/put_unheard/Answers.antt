use Rattle.std.proofs.Common.{ℕ, List, nat_eq, ap, sym, ◌∙◌, subst}
use Rattle.std.specs.List.{list_any}
use Rattle.std.proofs.lemmas.Result.{on_ok_weaker}
use Rattle.pgp_lists.specs.Ordered.{IsAscending}
use Rattle.pgp_group.specs.Heard.{has_member, heard}
use Rattle.pgp_group.proofs.NamedLemmas.{before, with_item-ascends, with_item-has}
use Rattle.pgp_whole.proofs.SummaryUnheard.{or-flip, or-left}
use Rattle.pgp_whole.proofs.group_sums.put_unheard.Goals as goal

pub returns-then-has_heard-clause-holds : goal.returns-then-has_heard-clause-holds
returns-then-has_heard-clause-holds c = λ log g osd viewed are.
    or-left (list_any (nat_eq osd) c.args.osds.now.items) (has_member c.args.member.now (heard g)) (nat_eq osd c.args.member.now.osd)
    (sym (c.has_heard.ensures log g viewed are) ∙ c.if-has_heard.true)

pub returns : goal.returns
returns c =
    let osds : List ℕ = c.args.osds.now.items in
    let new : ℕ = c.args.member.now.osd in
    record {
      ascends = on_ok_weaker c.insert_in_order.result (λ is. subst (IsAscending before) (sym is) (with_item-ascends new osds c.requires)) c.insert_in_order.ensures.ok;
      holds = on_ok_weaker c.insert_in_order.result
          (λ is log g osd viewed are. ap (list_any (nat_eq osd)) is ∙ with_item-has osd new osds
          ∙ or-flip (nat_eq osd new) (list_any (nat_eq osd) osds) (has_member c.args.member.now (heard g)) (sym (c.has_heard.ensures log g viewed are) ∙ c.if-has_heard.false))
          c.insert_in_order.ensures.ok;
    }

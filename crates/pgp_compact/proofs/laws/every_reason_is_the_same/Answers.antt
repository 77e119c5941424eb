use Rattle.pgp_compact.proofs.Common.{AnyCode, Entry, GroupLog, History, List, PgId, Some, ap, compacted, group_history, group_in, group_with, incs_of, map_some, same_Some, subst, sym, ◌++◌, ◌∙◌, ◌≡◌}
use Rattle.pgp_compact.proofs.LegalLemmas.{legal-sent}
use Rattle.pgp_compact.proofs.PartLemmas.{incs-gone_on}
use Rattle.pgp_compact.proofs.ReasonsLemmas.{reasons-same, same-price, same-reasons}
use Rattle.pgp_compact.proofs.laws.every_reason_is_the_same.Goals as goal
use Rattle.pgp_reasons.specs.Price.{price}
use Rattle.pgp_reasons.specs.Reasons.{AreReasons}

-- the group of the whole log, and that of the compacted one, have one history
record AreGroups (log more : List Entry) (pg : PgId) (whole less : GroupLog) : Type 0 where
  after : History AnyCode
  there : group_history (incs_of (log ++ more)) pg ≡ Some after
  whole_is : group_with (log ++ more) pg after ≡ whole
  less_is : group_with (compacted log ++ more) pg after ≡ less

are-groups : (log more : List Entry) (pg : PgId) (whole less : GroupLog) → group_in (log ++ more) pg ≡ Some whole → group_in (compacted log ++ more) pg ≡ Some less → AreGroups log more pg whole less
are-groups log more pg whole less first second =
    let a = map_some (group_with (log ++ more) pg) (group_history (incs_of (log ++ more)) pg) whole first in
    let b = map_some (group_with (compacted log ++ more) pg) (group_history (incs_of (compacted log ++ more)) pg) less second in
    let one : b.0 ≡ a.0 = same_Some b.0 a.0 (sym b.1 ∙ ap (λ incs. group_history incs pg) (incs-gone_on log more) ∙ a.1) in
    record { after = a.0; there = a.1; whole_is = a.2; less_is = ap (group_with (compacted log ++ more) pg) (sym one) ∙ b.2 }

pub returns-clause-kept : goal.returns-clause-kept
returns-clause-kept c = λ log more pg whole less reasons legal checked first second are.
    let g = are-groups log more pg whole less first second in
    let same = same-reasons c.what_does_not_count_never_counts_again.ensures log more pg g.after checked g.there (legal-sent log legal) reasons in
    subst (λ (it : GroupLog). AreReasons it reasons) g.less_is (same (subst (λ (it : GroupLog). AreReasons it reasons) (sym g.whole_is) are))

pub returns-clause-told : goal.returns-clause-told
returns-clause-told c = λ log more pg whole less reasons legal checked first second are.
    let g = are-groups log more pg whole less first second in
    let same = reasons-same c.what_does_not_count_never_counts_again.ensures log more pg g.after checked g.there (legal-sent log legal) reasons in
    subst (λ (it : GroupLog). AreReasons it reasons) g.whole_is (same (subst (λ (it : GroupLog). AreReasons it reasons) (sym g.less_is) are))

pub returns-clause-price : goal.returns-clause-price
returns-clause-price c = λ log more pg whole less starts losses legal checked first second.
    let g = are-groups log more pg whole less first second in
    let same = same-price c.what_does_not_count_never_counts_again.ensures log more pg g.after checked g.there (legal-sent log legal) starts losses in
    ap (price starts losses) (sym g.less_is) ∙ sym same ∙ ap (price starts losses) g.whole_is

use Rattle.std.proofs.Common.{◌+◌, take, nat_eq, ap, ◌∙◌, arith}
use Rattle.std.specs.List.{count_by}
use Rattle.std.proofs.lemmas.Grind.{common_steps}
use Rattle.std.proofs.lemmas.List.{take_all}
use Rattle.std.proofs.lemmas.List.Sums.{count_by_more_yes, count_by_more_no}
use Rattle.pgp_whole.specs.Summary.{counted}
use Rattle.pgp_whole.proofs.SummaryCounts.{count-once}
use Rattle.pgp_whole.proofs.group_counts.GroupCounts.add.Goals as goal

pub loop-osd-preserved : goal.loop-osd-preserved
loop-osd-preserved c = λ osd n below was.
    let before = c.loop-osd.invariant osd n below was in
    let after = c.add_one.ensures osd (n + count_by (nat_eq osd) (take c.loop-osd.osd-index c.args.osds.now)) below before in
    grind (arith, common_steps, count_by_more_yes, count_by_more_no)

pub returns : goal.returns
returns c = λ osd n up below was.
    c.loop-osd.invariant osd n below was
    ∙ ap (λ k. counted (n + k)) (ap (count_by (nat_eq osd)) (take_all c.loop-osd.osd-index c.args.osds.now c.loop-osd-test.false) ∙ count-once osd c.args.osds.now up)

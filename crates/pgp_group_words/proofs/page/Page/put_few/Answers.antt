use Rattle.std.proofs.Common.{◌≡◌, true, nat_le, rules, tests}
use Rattle.pgp_ids.specs.Osds.{osd_count}
use Rattle.pgp_group_words.specs.Sentence.{few_members, few_shards}
use Rattle.pgp_group_words.proofs.page.Page.put_few.Goals as goal

pub returns-then-members-least : goal.returns-then-members-least
unfolding few_shards
returns-then-members-least c =
    let enough : nat_le c.args.explanation.now.pool.min_size (osd_count c.args.explanation.now.view.acting) ≡ true = search (rules, tests) in
    rw enough (rw c.plural-shards.ensures at c.write.ensures)

pub returns : goal.returns
unfolding few_members
returns c = search (rules, tests)

use Rattle.pgp_group_words.specs.Sentence.{not_recent}
use Rattle.pgp_group_words.proofs.page.Page.put_none_recent.Goals as goal

pub returns : goal.returns
unfolding not_recent
returns c = rw (← c.in-Some.ensures) (rw (c.in_ok-member.ensures, c.epoch-epoch.ensures) at c.write.ensures)

use Rattle.pgp_group_words.specs.Sentence.{on_up_thru}
use Rattle.pgp_group_words.proofs.page.Page.put_need_up_thru.Goals as goal

pub returns : goal.returns
unfolding on_up_thru
returns c = rw c.epoch-first.ensures at c.write.ensures

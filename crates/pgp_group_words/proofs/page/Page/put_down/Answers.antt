use Rattle.pgp_group_words.specs.Sentence.{on_down}
use Rattle.pgp_group_words.proofs.page.Page.put_down.Goals as goal

pub returns : goal.returns
unfolding on_down
returns c = rw (c.in_ok-down.ensures, c.plural-are.ensures, c.in_ok-epochs.ensures, c.as_slice.ensures, c.as_slice-blocked_by.ensures) at c.write.ensures

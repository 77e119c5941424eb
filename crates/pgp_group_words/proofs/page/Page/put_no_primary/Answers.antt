use Rattle.std.proofs.Common.{append_assoc}
use Rattle.pgp_group_words.specs.Sentence.{on_no_primary}
use Rattle.pgp_group_words.proofs.page.Page.put_no_primary.Goals as goal

pub returns : goal.returns
unfolding on_no_primary
returns c = rw append_assoc at (rw c.in_ok-push_str.ensures at c.put_starters.ensures)

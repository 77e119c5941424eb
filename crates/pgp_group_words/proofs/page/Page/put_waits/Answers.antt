use Rattle.pgp_group_words.specs.IntervalWords.{waits_line}
use Rattle.pgp_group_words.proofs.page.Page.put_waits.Goals as goal

pub returns : goal.returns
unfolding waits_line
returns c = rw (c.in_ok-epochs.ensures, c.in_ok-acting.ensures, c.member_noun-noun.ensures) at c.writeln.ensures

use Rattle.pgp_group_words.specs.IntervalWords.{read_write_line}
use Rattle.pgp_group_words.proofs.page.Page.put_read_write.Goals as goal

pub returns-in-Some : goal.returns-in-Some
unfolding read_write_line
returns-in-Some c = rw c.in-Some.is (rw c.epoch-epoch.ensures at c.writeln.ensures)

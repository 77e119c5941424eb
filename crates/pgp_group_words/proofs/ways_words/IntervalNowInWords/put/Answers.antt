use Rattle.pgp_group_words.specs.WaysWords.{away_line, gone_line}
use Rattle.pgp_group_words.proofs.ways_words.IntervalNowInWords.put.Goals as goal

pub returns-in_ok-names-in-Away : goal.returns-in_ok-names-in-Away
unfolding away_line
returns-in_ok-names-in-Away c = rw c.in-Away.is (rw (c.in_ok-epochs-in-Away.ensures, c.in_ok-names-in-Away.ensures, c.as_slice.ensures, c.plural-are.ensures, c.len.ensures) at c.writeln.ensures)

pub returns-in_ok-epochs-in-Gone : goal.returns-in_ok-epochs-in-Gone
unfolding gone_line
returns-in_ok-epochs-in-Gone c = rw c.in-Gone.is (rw c.in_ok-epochs-in-Gone.ensures at c.writeln-in-Gone.ensures)

use Rattle.std.proofs.Common.{append_assoc}
use Rattle.pgp_group_words.specs.IntervalWords.{interval_lines}
use Rattle.pgp_group_words.proofs.interval_words.BlockingInWords.put.Goals as goal

pub returns : goal.returns
unfolding interval_lines
returns c =
    simp append_assoc at
    (rw (c.first.ensures, c.in_ok-put_fate-3.ensures, c.in_ok-put_fate-2.ensures, c.in_ok-put_fate.ensures, c.in_ok-put_down_members.ensures, c.in_ok-put_waits.ensures)
    at c.put_read_write.ensures)

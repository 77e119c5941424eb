use Rattle.std.proofs.Common.{append_assoc}
use Rattle.pgp_group_words.specs.Words.{acting_line, place_lines}
use Rattle.pgp_group_words.proofs.page.Page.put_place.Goals as goal

pub returns : goal.returns
unfolding acting_line place_lines
returns c =
    let acting = rw (c.in_ok-acting.ensures, c.epoch-first.ensures) at c.in_ok-writeln.ensures in
    let up = rw c.in_ok-up.ensures at c.in_ok-writeln-2.ensures in
    simp append_assoc (simp append_assoc at (rw (up, acting) at c.put_les.ensures))

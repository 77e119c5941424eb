use Rattle.std.proofs.Common.{append_assoc}
use Rattle.pgp_group_words.specs.Words.{advice_lines}
use Rattle.pgp_group_words.proofs.page.Page.put_advice.Goals as goal

pub returns : goal.returns
unfolding advice_lines
returns c =
    simp append_assoc at
    (rw (c.in_ok-put_ways.ensures, c.in_ok-put_each.ensures, c.as_slice.ensures, c.in_ok-put_list-2.ensures, c.in_ok-unheard.ensures, c.in_ok-put_list.ensures, c.in_ok-put_place.ensures, c.in_ok-put_heading.ensures)
    at c.put_resorts.ensures)

use Rattle.std.proofs.Common.{◌≡◌, ◌==◌, false, rules, tests}
use Rattle.pgp_group_words.specs.WaysWords.{any_line}
use Rattle.pgp_group_words.proofs.page.Page.put_any.Goals as goal

pub returns-in_ok-names-in-Any : goal.returns-in_ok-names-in-Any
unfolding any_line
returns-in_ok-names-in-Any c =
    let some : (c.in-Any.any.least == 1) ≡ false = search (rules, tests) in
    rw (c.in-Any.is, some) (rw (c.in_ok-names-in-Any.ensures, c.as_slice.ensures) at c.writeln.ensures)

use Rattle.std.proofs.Common.{◌≡◌, ◌==◌, false, length, append_assoc, rules, tests}
use Rattle.pgp_group_words.specs.WaysWords.{resort_lines}
use Rattle.pgp_group_words.proofs.page.Page.put_resorts.Goals as goal

pub returns-in_ok-push_str-in-Some : goal.returns-in_ok-push_str-in-Some
unfolding resort_lines
returns-in_ok-push_str-in-Some c =
    let some : (length c.in-Some.outcomes == 0) ≡ false = search (rules, tests) in
    rw (c.in-Some.is, some) (rw append_assoc at (rw (c.in_ok-push_str-in-Some.ensures, c.as_slice.ensures) at c.put_outcomes.ensures))

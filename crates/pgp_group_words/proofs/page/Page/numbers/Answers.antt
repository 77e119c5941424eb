use Rattle.std.proofs.Common.{◌≡◌, true, length, nat_lt}
use Rattle.std.proofs.lemmas.Bool.{lt-ltb}
use Rattle.pgp_group_words.specs.Spans.{most_named}
use Rattle.pgp_group_words.proofs.page.Page.numbers.Goals as goal

pub returns-in_ok-named : goal.returns-in_ok-named
returns-in_ok-named c =
    let many : nat_lt most_named (length c.args.runs.now) ≡ true = lt-ltb most_named (length c.args.runs.now) c.if-runs-gt-MOST_NAMED.true in
    rw many (rw c.in_ok-named.ensures at c.format.ensures.ok)

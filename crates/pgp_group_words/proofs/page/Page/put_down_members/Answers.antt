use Rattle.std.proofs.Common.{◌≡◌, length, ap, sym, ◌∙◌}
use Rattle.pgp_group_words.specs.IntervalWords.{down_line, down_members}
use Rattle.pgp_group_words.specs.Text.{Sheet}
use Rattle.pgp_group_words.proofs.page.Page.put_down_members.Goals as goal

pub returns : goal.returns
unfolding down_line
returns c =
    let all = down_members c.args.self.now.naming.by_place c.args.interval.now in
    let items : c.in_ok-down.down.items ≡ all =
    c.in_ok-down.ensures ∙ ap (λ (page : Sheet). down_members page.naming.by_place c.args.interval.now) c.self.view_is in
    let down : c.as_slice.result.now ≡ all = c.as_slice.ensures.value ∙ items in
    let count : c.len.result ≡ length all = c.len.ensures ∙ sym c.as_slice.ensures.len ∙ ap length down in
    rw (c.in_ok-names.ensures, down, c.plural-are.ensures, count) at c.writeln.ensures

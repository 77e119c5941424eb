use Rattle.std.proofs.Common.{◌≡◌, ◌||◌, false, Some, cond, max, ap, sym, ◌∙◌}
use Rattle.std.specs.HashMap as hash
use Rattle.std.specs.Option.{option_map_or}
use Rattle.pgp_group.specs.Heard.{is_counted}
use Rattle.pgp_whole.specs.kept.Hearing.{hears, is_same_source, source_of}
use Rattle.pgp_whole.proofs.SummaryHearing.{info-more, stamps-more}
use Rattle.pgp_whole.proofs.stamps.put_entry.Goals as goal

pub returns-in_ok-insert : goal.returns-in_ok-insert
returns-in_ok-insert c = λ entries are.
    let info = c.in-Info.info in
    let old = c.args.stamps.now in
    let new = c.insert.new.self in
    let stamp = c.later-stamp.result in
    let is : stamp ≡ option_map_or (λ other. max info.stamp other) (hash.get is_same_source old (source_of info.pg info.member)) info.stamp =
    c.later-stamp.ensures ∙ ap (λ found. option_map_or (λ other. max info.stamp other) found info.stamp) (c.get.ensures.value ∙ ap (hash.get is_same_source old) c.new-sender.ensures) in
    stamps-more entries c.args.entry.now old new
    (λ g member.
    let key = source_of g.pg member in
    info-more g member info old new stamp is
    (c.in_ok-insert.ensures.updates.0 key ∙ ap (λ k. cond (is_same_source k key) (Some stamp) (hash.get is_same_source old key)) c.new-sender.ensures)
    ∙ ap (λ e. option_map_or (is_counted g member) (hash.get is_same_source old key) false || hears g member e) (sym c.in-Info.is))
    are

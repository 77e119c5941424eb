use Rattle.std.proofs.Common.{◌≡◌, [], Some, drop, fold, ap, sym, ◌∙◌}
use Rattle.left_right.specs.Sides.{view}
use Rattle.pgp_feed.specs.declared.store.Content.{Content}
use Rattle.pgp_feed.specs.OneLog.{SeesTold}
use Rattle.pgp_feed.specs.Stores.{content_of, applied}
use Rattle.pgp_feed.proofs.Puts.{put_turns, put_told, when_ok}
use Rattle.pgp_feed.proofs.feed.try_publish.Goals as goal

pub publish_as-next-requires : goal.publish_as-next-requires
publish_as-next-requires g c next is =
    let writer = c.args.writer in
    put_turns _ _ writer.desk.shown.value next c.args.told.now (drop writer.behind writer.log.items) c.requires is

pub returns-then-is_ok-clause-told : goal.returns-then-is_ok-clause-told
returns-then-is_ok-clause-told g c =
    let writer = c.args.writer in
    let next = c.publish_as-next.result.0 in
    let ops = drop writer.behind writer.log.items in
    let values = when_ok c.publish_as-next.result.1 ((content_of next.desk.shown.value ≡ fold applied (content_of writer.desk.shown.value) ops) × (drop next.behind next.log.items ≡ [])) _ c.publish_as-next.ensures.values (sym c.is_ok.ensures.value ∙ c.if-is_ok.true) in
    ap (λ (k : Content). k.told) values.0 ∙ put_told (content_of writer.desk.shown.value) c.args.told.now ops c.requires

pub returns-then-is_ok-clause-seen : goal.returns-then-is_ok-clause-seen
returns-then-is_ok-clause-seen g c =
    let writer = c.args.writer in
    let next = c.publish_as-next.result.0 in
    let ops = drop writer.behind writer.log.items in
    let is = sym c.is_ok.ensures.value ∙ c.if-is_ok.true in
    let values = when_ok c.publish_as-next.result.1 ((content_of next.desk.shown.value ≡ fold applied (content_of writer.desk.shown.value) ops) × (drop next.behind next.log.items ≡ [])) _ c.publish_as-next.ensures.values is in
    let told = ap (λ (k : Content). k.told) values.0 ∙ put_told (content_of writer.desk.shown.value) c.args.told.now ops c.requires in
    let rule = when_ok c.publish_as-next.result.1 (SeesTold (view writer.desk.place) writer.desk.shown.value next.desk.shown.value (view next.desk.place)) _ c.publish_as-next.ensures.rule is in
    rule.seen ∙ ap (λ r. Some r) told

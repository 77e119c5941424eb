use Rattle.std.proofs.Common.{sym, ◌∙◌, option_map}
use Rattle.left_right.specs.Sides.{view}
use Rattle.pgp_feed.specs.Receipts.{feed_of}
use Rattle.pgp_feed.specs.Taps.{last_of}
use Rattle.pgp_feed.proofs.Refused.{tap_refused}
use Rattle.pgp_feed.proofs.Views.{turns, holds_self, knows_feed, known_one}
use Rattle.pgp_feed.proofs.tap.Tap.read.Goals as goal

pub enter_as-requires : goal.enter_as-requires
enter_as-requires c x = turns _ _ x x (λ h. h) (λ h. holds_self x.told)

pub read-read-requires-clause-feed : goal.read-read-requires-clause-feed
read-read-requires-clause-feed c =
    let reader = c.unwrap-reader.result in
    let tap = c.args.self.now in
    let is = known_one (λ r. option_map feed_of (view r.place)) tap.reader reader (feed_of tap.last) (sym c.take.ensures.value ∙ c.unwrap-reader.ensures) tap.knows in
    rw c.get-store.ensures (c.requires.feed ∙ sym (knows_feed (view reader.place) (feed_of tap.last) c.in-Ok.reading.part.value is c.in-Ok.ensures.1.later))

pub longer-requires : goal.longer-requires
longer-requires c =
    let reader = c.unwrap-reader.result in
    let tap = c.args.self.now in
    let is = known_one (λ r. option_map feed_of (view r.place)) tap.reader reader (feed_of tap.last) (sym c.take.ensures.value ∙ c.unwrap-reader.ensures) tap.knows in
    rw c.get-store.ensures (knows_feed (view reader.place) (feed_of tap.last) c.in-Ok.reading.part.value is c.in-Ok.ensures.1.later)

pub returns-in-Ok-clause-refused : goal.returns-in-Ok-clause-refused
returns-in-Ok-clause-refused c =
    tap_refused c.read-read.result c.args.at c.args.receipt.now (last_of c.args.self.now) c.get-store.result.now.told c.longer.result
    c.read-read.ensures.refused c.longer.ensures.which c.longer.ensures.that

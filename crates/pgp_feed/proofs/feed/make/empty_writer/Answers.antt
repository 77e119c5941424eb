use Rattle.std.proofs.Common.{sym, ◌∙◌, arith}
use Rattle.pgp_feed.proofs.Opens.{contents_same, opening_told}
use Rattle.pgp_feed.proofs.Views.{opens}
use Rattle.pgp_feed.proofs.feed.make.empty_writer.Goals as goal

pub new-requires : goal.new-requires
new-requires c =
    let one = c.in_ok-first.first in
    let two = c.in_ok-second.second in
    let f = c.in_ok-first.ensures in
    let s = c.in_ok-second.ensures in
    record {
      readers = (omega (arith, c.requires.readers.0), omega (arith, c.requires.readers.1));
      alike = contents_same one two (f.1 ∙ sym s.1) (f.0 ∙ sym s.0);
      rule = opens one (opening_told one c.args.told.now f.0 f.1 c.requires.empty);
    }

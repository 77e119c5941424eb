use Rattle.std.proofs.Common.{append_assoc, rules}
use Rattle.pgp_group_words.specs.Text.{Puts}
use Rattle.pgp_group_words.specs.Words.{info_words, sender_part}
use Rattle.pgp_group_words.proofs.group_words.InfoInWords.put.Goals as goal

pub returns : goal.returns
unfolding info_words sender_part
returns c =
    let sender : Puts c.args.page.now c.write.new.self (sender_part c.args.page.now.naming c.args.self.now) = search rules in
    simp append_assoc (simp append_assoc at (rw (c.in_ok-put_les.ensures, sender) at c.put_les-2.ensures))

use Rattle.std.proofs.Common.{take}
use Rattle.pgp_group_words.specs.Text.{Puts, text_of_each}
use Rattle.pgp_group_words.proofs.page.Page.put_each.Given as goal

abbrev pub invariant-loop-item : goal.invariant-loop-item
invariant-loop-item g l = Puts l.initial.self l.self (text_of_each l.before (g.T.InWords.words l.initial.self.naming) (take l.item-index l.items))

use Rattle.std.proofs.Common.{◌≡◌, ◌+◌, ◌++◌, drop, length, map}
use Rattle.pgp_group_words.specs.Text.{listed_with}
use Rattle.pgp_group_words.proofs.page.Page.listed.Given as goal

-- what is written, with the rest of the list, is the whole list
abbrev pub invariant-loop-item : goal.invariant-loop-item
invariant-loop-item g l = record {
  left : l.others + l.item-index ≡ length l.items;
  naming : l.page.naming ≡ l.self.naming;
  written : l.page.text ++ listed_with l.last (map (g.T.InWords.words l.self.naming) (drop l.item-index l.items))
      ≡ listed_with l.last (map (g.T.InWords.words l.self.naming) l.items);
}

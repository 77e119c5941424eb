use Rattle.std.proofs.Common.{rules, arith, ◌≡◌, ◌<◌, ◌-◌, List, length, map, take, drop, subst, ap, ◌∙◌}
use Rattle.std.proofs.lemmas.List.{length-take}
use Rattle.std.specs.Arc.{arc_value}
use Rattle.pgp_ids.specs.declared.entry.Entry.{Entry}
use Rattle.pgp_feed.specs.Receipts.{entries_of, Holds}
use Rattle.pgp_feed.specs.Appends.{Appends}
use Rattle.pgp_feed.proofs.Shares.{slice_read}
use Rattle.pgp_feed.proofs.store.Store.read.Goals as goal

pub returns-in-Ok-clause-read : goal.returns-in-Ok-clause-read
returns-in-Ok-clause-read c =
    let s = c.args.self.now in
    let r = c.args.receipt.now in
    let holds : Holds s.told r = search rules in
    let is : map arc_value c.deref.result.now ≡ entries_of s.told = ap (map arc_value) c.deref.ensures.value ∙ c.requires.told in
    let slice = slice_read c.deref.result.now (entries_of s.told) (entries_of r) c.args.at c.len.result is holds.front c.len.ensures.length (rw c.len.ensures.length c.requires.at) in
    (subst (λ (l : List Entry). Appends c.args.into.now.items c.append_shared.new.into.items l) slice c.in-Ok.ensures.appended, holds)

pub returns-in-Err-clause-refused : goal.returns-in-Err-clause-refused
returns-in-Err-clause-refused c =
    let more = c.len.result - c.args.at in
    let all = drop c.args.at c.deref.result.now in
    let some : 0 < length (take more all) = c.in-Err.ensures.some in
    (omega (arith, some, length-take more all, c.len.ensures.length), search rules)

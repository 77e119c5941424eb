use Rattle.std.proofs.Common.{List, ap, subst}
use mathlib.Core.List.{IsPrefix}
use Rattle.pgp_ids.specs.declared.entry.Entry.{Entry}
use Rattle.pgp_feed.proofs.Fronts.{shorter_front}
use Rattle.pgp_feed.proofs.receipt.Receipt.meet.Goals as goal

pub returns-clause-this : goal.returns-clause-this
returns-clause-this c less =
    let r = c.args.self.now in
    let q = c.args.other.now in
    let both = c.learn.new.self.log in
    let this : IsPrefix r.seen.log both = subst (λ (l : List Entry). IsPrefix l both) (ap (λ s. s.log) c.again-both.ensures) c.learn.ensures.2 in
    shorter_front r.len q.len r.seen.log q.seen.log both this c.learn.ensures.3 r.within q.within less

pub returns-clause-that : goal.returns-clause-that
returns-clause-that c less =
    let r = c.args.self.now in
    let q = c.args.other.now in
    let both = c.learn.new.self.log in
    let this : IsPrefix r.seen.log both = subst (λ (l : List Entry). IsPrefix l both) (ap (λ s. s.log) c.again-both.ensures) c.learn.ensures.2 in
    shorter_front q.len r.len q.seen.log r.seen.log both c.learn.ensures.3 this q.within r.within less

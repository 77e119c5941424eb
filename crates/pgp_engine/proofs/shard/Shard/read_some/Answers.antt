use Rattle.std.proofs.Common.{◌≡◌, ℕ, ◌+◌, List, length, take, ap, sym, ◌∙◌, subst, arith}
use Rattle.std.proofs.lemmas.Grind.{common_steps}
use Rattle.pgp_ids.specs.declared.entry.Entry.{Entry}
use Rattle.pgp_log.specs.Log.{IsFrontOf}
use Rattle.pgp_log.proofs.SharedLemmas.{on_err}
use Rattle.pgp_feed.specs.Receipts.{entries_of}
use Rattle.pgp_feed.specs.Taps.{last_of}
use Rattle.pgp_feed.proofs.Fronts.{front_trans}
use Rattle.pgp_engine.proofs.FrontLemmas.{front_between, front_short, take_front}
use Rattle.pgp_engine.proofs.ReadLemmas.{seen_more}
use Rattle.pgp_engine.proofs.shard.Shard.read_some.Goals as goal

pub absorb_to-requires-clause-more : goal.absorb_to-requires-clause-more
absorb_to-requires-clause-more g c =
    let front : List Entry = c.self.inside.state.front in
    let newest : List Entry = entries_of c.newest-newest.result in
    let read : c.len.result ≡ length front = c.len.ensures.length ∙ ap length c.self.invariant.named.entries in
    let f : IsFrontOf front newest = front_trans front (entries_of (last_of c.self.inside.tap)) newest c.self.invariant.seen c.newest-newest.ensures.later.front in
    subst (λ (l : List Entry). IsFrontOf front l) (sym (c.after-target.ensures.entries ∙ ap (λ (n : ℕ). take (n + c.args.max) newest) read)) (front_between front newest c.args.max f)

pub returns-in_err-absorb_to-clause-reads : goal.returns-in_err-absorb_to-clause-reads
returns-in_err-absorb_to-clause-reads g c =
    let newest : List Entry = entries_of c.newest-newest.result in
    let n : ℕ = c.len.result + c.args.max in
    on_err c.from_residual.result _ (seen_more _ c.args.self.now c.absorb_to.new.self c.after-target.result c.newest-newest.result _
    c.self.view_is c.newest-newest.ensures.last c.in_err-absorb_to.ensures.on.seen_is
    (omega (arith, ap length c.after-target.ensures.entries, front_short (take n newest) newest (take_front n newest))) c.in_err-absorb_to.ensures.reads)

pub after-target-requires : goal.after-target-requires
after-target-requires g c = grind (arith, common_steps)

pub invariant_of-self : goal.invariant_of-self
invariant_of-self g c = grind (arith, common_steps)

pub returns-in_err-absorb_to-clause-on : goal.returns-in_err-absorb_to-clause-on
returns-in_err-absorb_to-clause-on g c = grind (arith, common_steps)

pub returns-clause-on : goal.returns-clause-on
returns-clause-on g c = grind (arith, common_steps)

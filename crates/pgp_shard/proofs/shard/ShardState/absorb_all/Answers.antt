use Rattle.pgp_shard.proofs.Common.{◌≡◌, List, None, sym, ◌∙◌, subst, arc_value, Entry, fits}
use Rattle.pgp_log.proofs.SharedLemmas.{next-of-legal, on_err}
use Rattle.pgp_shard.proofs.ShardLemmas.{read-further, read-some}
use Rattle.pgp_shard.proofs.shard.ShardState.absorb_all.Goals as goal

pub absorb-requires : goal.absorb-requires
absorb-requires c =
    let new : Entry = arc_value c.entry-item.result in
    subst (λ (front : List Entry). fits front new ≡ None) (sym c.loop-entry.invariant.read.front_is)
    (next-of-legal c.args.self.now.front arc_value c.args.entries.now c.loop-entry.entry-index c.entry-item.result c.requires c.loop-entry-test.true c.entry-item.is)

pub loop-entry-preserved : goal.loop-entry-preserved
loop-entry-preserved c = record {
  read = read-further c.args.self.now c.loop-entry.self c.absorb.new.self arc_value c.args.entries.now c.loop-entry.entry-index c.entry-item.result
      c.loop-entry-test.true c.entry-item.is c.loop-entry.invariant.read c.in_ok-absorb.ensures.ok;
  there = c.in_ok-absorb.ensures.marks.there ∙ c.loop-entry.invariant.there;
}

pub returns-in_err-absorb-clause-err : goal.returns-in_err-absorb-clause-err
returns-in_err-absorb-clause-err c =
    on_err c.from_residual.result _
    (read-some c.args.self.now c.loop-entry.self c.absorb.new.self arc_value c.args.entries.now c.loop-entry.entry-index
    c.loop-entry-test.true c.loop-entry.invariant.read c.in_err-absorb.ensures.err)

use Rattle.std.proofs.Common.{◌∙◌, arith}
use Rattle.std.proofs.lemmas.List.{take_all}
use Rattle.std.proofs.lemmas.Result.{IfOk-weaker}
use Rattle.pgp_shard.specs.Running.{IsReading}
use Rattle.pgp_core.proofs.ChangedLemmas.{all-changed}
use Rattle.pgp_core.proofs.log.Log.changed_since.Goals as goal

pub returns-clause-changed : goal.returns-clause-changed
returns-clause-changed c =
    let log = c.self.inside.log in
    let read : IsReading log 1 0 c.absorb_next.new.self = rw (← c.entries.ensures.entries) (c.absorb_next.ensures.reading 1 0 (rw c.entries.ensures.entries c.self.invariant.shard_is)) in
    let same = c.changed_since.ensures.same in
    rw (← c.self.view_is)
    (IfOk-weaker c.changed_since.result _ _
    (λ ids changed. all-changed c.args.count log c.changed_since.new.self ids.items
    (same.front_is ∙ c.in_ok-absorb_next.ensures.ok.front_is ∙ rw c.entries.ensures.entries (take_all _ log (omega arith)))
    (same.shard_is ∙ read.shard_is) (same.shards_are ∙ read.shards_are) changed) c.changed_since.ensures.changed)

pub invariant_of-self : goal.invariant_of-self
invariant_of-self c = record {
  counts_are = c.self.invariant.counts_are;
  shard_is = rw (← c.entries.ensures.entries) (c.absorb_next.ensures.reading 1 0 (rw c.entries.ensures.entries c.self.invariant.shard_is));
  raw_sets = c.self.invariant.raw_sets;
}

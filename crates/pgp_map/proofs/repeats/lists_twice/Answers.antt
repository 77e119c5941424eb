use Rattle.std.proofs.Common.{◌∙◌, map}
use Rattle.pgp_map.specs.Pools.{is_same_group}
use Rattle.pgp_map.proofs.RepeatLemmas.{repeat-of_all}
use Rattle.pgp_map.proofs.repeats.lists_twice.Goals as goal

pub returns-clause-value : goal.returns-clause-value
returns-clause-value c =
    repeat-of_all c.has_repeat.result is_same_group (map (λ given. given.pg)) c.args.temps.now c.deref.result.now c.loop-given.given-index
    (c.deref.ensures.value ∙ c.loop-given.invariant) c.loop-given-test.false c.has_repeat.ensures

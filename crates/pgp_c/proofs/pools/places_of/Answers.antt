use Rattle.std.proofs.Common.{None, rules, slice_get, tests}
use Rattle.pgp_c.proofs.FromFnLemmas.{made-each}
use Rattle.pgp_c.proofs.pools.places_of.Goals as goal

pub returns : goal.returns
returns c = made-each (λ place. slice_get c.args.parts.now place) c.from_fn.result 16 None c.from_fn.ensures.items (λ x r q k. search (rules, tests))

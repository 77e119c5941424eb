use Rattle.std.proofs.Common.{rules, tests}
use Rattle.pgp_c.specs.Place.{device_number_at}
use Rattle.pgp_c.proofs.FromFnLemmas.{made-each}
use Rattle.pgp_c.proofs.place.sixteen.Goals as goal

pub returns : goal.returns
returns c = made-each (device_number_at c.args.devices.now) c.from_fn.result 16 0 c.from_fn.ensures.items (λ x r q k. search (rules, tests))

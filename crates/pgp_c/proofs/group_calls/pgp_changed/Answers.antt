use Rattle.std.proofs.Common.{inl, rules, subst}
use Rattle.pgp_c.specs.Changed.{TellsChanged}
use Rattle.pgp_c.proofs.group_calls.pgp_changed.Goals as goal

pub returns-in-Ok : goal.returns-in-Ok
returns-in-Ok c = subst (λ was. TellsChanged was c.put.new.self.held.session c.args.since c.args.room.now c.put_each.new.room c.put_each.new.count c.number-in-Ok.result)
    c.in-Some.ensures.value
    (search rules, inl (record { ids = c.in-Ok.groups.items; changed = search rules; room = search rules; count_is = search rules; status_is = search rules }))

use Rattle.std.proofs.Common.{ap, ◌∙◌, inl, rules, subst}
use Rattle.pgp_compact.specs.Compacted.{are_needed_in}
use Rattle.pgp_c.specs.Needed.{Needs}
use Rattle.pgp_c.proofs.NeededLemmas.{needs-put}
use Rattle.pgp_c.proofs.log_calls.pgp_needed.Goals as goal

pub returns-in-Ok : goal.returns-in-Ok
returns-in-Ok c = subst (λ was. Needs was c.put.new.self.held.session c.args.room.now c.put_each.new.room c.put_each.new.count c.number-in-Ok.result)
    c.in-Some.ensures.value (
      c.put.ensures,
      inl (needs-put c.in-Some.opened.value.log c.in-Ok.choices.items c.args.room.now _ _ _
          (c.in-Ok.ensures ∙ ap are_needed_in (c.entries.ensures.entries ∙ ap (λ session. session.log) c.deref.ensures)) (search rules) (search rules) (search rules)),
    )

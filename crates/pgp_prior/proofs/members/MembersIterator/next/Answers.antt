use Rattle.std.proofs.Common.{◌≡◌, Some, None, length, get_or, if◌then◌else◌, ap, sym, ◌∙◌, arith}
use Rattle.pgp_prior.proofs.MemberLemmas.{next-place}
use Rattle.pgp_prior.proofs.members.MembersIterator.next.Goals as goal
use Rattle.pgp_prior.proofs.members.MembersIterator.next.Goals.{then-self, else-self}

pub returns-in-Some-osd-clause-steps : goal.returns-in-Some-osd-clause-steps
returns-in-Some-osd-clause-steps c =
    let inside = c.loop-held.self-inside in
    let found = c.in-Some.ensures.lookup.3 in
    let slot : c.if-self.slot ≡ (if inside.by_place then inside.place else 0) = grind arith in
    sym c.loop-held.invariant.1
    ∙ (rw slot (next-place inside.by_place inside.places.now inside.place (Some c.in-Some-osd.osd) (omega (arith, found.0))
    (ap (λ k. get_or inside.places.now k None) (sym c.from.ensures) ∙ sym (found.1 None) ∙ sym c.osd.ensures ∙ c.in-Some-osd.is)))

pub returns-in-Some-osd-clause-goes : goal.returns-in-Some-osd-clause-goes
returns-in-Some-osd-clause-goes c =
    record {
      on = λ finite. (tt, tt, omega (arith, ap length (returns-in-Some-osd-clause-steps c)));
      keeps = tt;
      rests = λ finite. tt;
    }

pub loop-held-preserved : goal.loop-held-preserved
loop-held-preserved c =
    let inside = c.loop-held.self-inside in
    let found = c.in-Some.ensures.lookup.3 in (
      c.loop-held.invariant.0,
      sym (next-place inside.by_place inside.places.now inside.place None (omega (arith, found.0))
          (ap (λ k. get_or inside.places.now k None) (sym c.from.ensures) ∙ sym (found.1 None) ∙ sym c.osd.ensures ∙ c.in_default-osd.is))
          ∙ c.loop-held.invariant.1,
    )

use Rattle.std.proofs.Common.{◌≡◌, ◌<◌, ℕ, Some, None, true, length, refl, sym, ◌∙◌, rules}
use Rattle.std.proofs.lemmas.Bool.{true≢false}
use Rattle.std.proofs.lemmas.Option.{slice_get_read}
use Rattle.pgp_ids.specs.declared.past.Past.{Past}
use Rattle.pgp_interval.specs.ReadWrite.{can_write}
use Rattle.pgp_interval.proofs.RaiseLemmas.{none_raised, still_raised, one_raised}
use Rattle.pgp_interval.proofs.raise.place_to_raise.Goals as goal
use Rattle.pgp_interval.proofs.raise.place_to_raise.Goals.{else-not-interval-via-then-not-interval+else-can_write, else-not-interval-via-else-not-interval}

pub returns-in_err-place-clause-raised : goal.returns-in_err-place-clause-raised
returns-in_err-place-clause-raised g c = λ order.
    let missed : c.from_residual.result ≡ None = search rules in
    rw missed (none_raised (g.R.Recoverable.enough c.args.code.now) (g.R.Recoverable.by_place c.args.code.now) c.args.epoch c.args.past.now
    (λ k d below. c.in_err-place.ensures.others order k d below (λ same. cc)))

pub returns-then-can_write-clause-raised : goal.returns-then-can_write-clause-raised
returns-then-can_write-clause-raised g c = λ order.
    let others = λ (k : ℕ) (d : Past) (below : k < length c.args.past.now) (other : k ≡ c.in_ok-place.place → ⊥). c.in_ok-place.ensures.others order k d below (λ (same : Some c.in_ok-place.place ≡ Some k). other (cc)) in
    let able : can_write (g.R.Recoverable.enough c.args.code.now) (g.R.Recoverable.by_place c.args.code.now) c.index-past-place.result.members ≡ true = sym c.can_write.ensures ∙ c.if-can_write.true in
    one_raised (g.R.Recoverable.enough c.args.code.now) (g.R.Recoverable.by_place c.args.code.now) c.args.epoch c.args.past.now c.in_ok-place.place c.index-past-place.result c.in_ok-place.ensures.within c.index-past-place.is others able (c.in_ok-place.ensures.here order)

pub returns-else-not-interval-clause-raised : goal.returns-else-not-interval-clause-raised
returns-else-not-interval-clause-raised g c = λ order.
    let others = λ (k : ℕ) (d : Past) (below : k < length c.args.past.now) (other : k ≡ c.in_ok-place.place → ⊥). c.in_ok-place.ensures.others order k d below (λ (same : Some c.in_ok-place.place ≡ Some k). other (cc)) in
    still_raised (g.R.Recoverable.enough c.args.code.now) (g.R.Recoverable.by_place c.args.code.now) c.args.epoch c.args.past.now c.in_ok-place.place c.index-past-place.result c.in_ok-place.ensures.within c.index-past-place.is others (λ quiet able. elim c.else-not-interval.branch [
      | else-not-interval-via-then-not-interval+else-can_write w ↦ absurd (true≢false (sym able ∙ sym w.can_write.ensures ∙ w.if-can_write.false))
      | else-not-interval-via-else-not-interval w ↦ absurd (true≢false (sym w.if-not-interval.false ∙ quiet))
    ])

pub returns-then-can_write-clause-was : goal.returns-then-can_write-clause-was
returns-then-can_write-clause-was g c = rw (slice_get_read _ _ _ _ refl c.in_ok-place.ensures.within c.index-past-place.is) c.if-not-interval.true

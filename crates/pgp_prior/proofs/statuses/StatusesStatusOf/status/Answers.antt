use Rattle.std.proofs.Common.{◌≡◌, ℕ, ◌+◌, ◌<◌, List, ◌∷◌, length, get_or, drop, ap, sym, ◌∙◌}
use Rattle.std.proofs.lemmas.List.{drop_more, drop_all}
use Rattle.pgp_prior.specs.declared.statuses.KnownStatus.{KnownStatus}
use Rattle.pgp_prior.proofs.statuses.StatusesStatusOf.status.Goals as goal

next : (items : List KnownStatus) (i : ℕ) (known : KnownStatus) → i < length items → known ≡ get_or items i known → drop i items ≡ known ∷ drop (i + 1) items
next items i known below is = drop_more items i known below ∙ ap (λ (k : KnownStatus). k ∷ drop (i + 1) items) (sym is)

pub loop-known-preserved : goal.loop-known-preserved
loop-known-preserved c =
    let same = c.deref-known-items.ensures.value in
    rw (next c.args.self.now.known.items c.loop-known.known-index c.known-item.result (rw same at c.loop-known-test.true) (rw same at c.known-item.is), sym c.eq.ensures ∙ c.if-eq.false) at c.loop-known.invariant

pub returns-then-eq : goal.returns-then-eq
returns-then-eq c =
    let same = c.deref-known-items.ensures.value in
    rw (next c.args.self.now.known.items c.loop-known.known-index c.known-item.result (rw same at c.loop-known-test.true) (rw same at c.known-item.is), sym c.eq.ensures ∙ c.if-eq.true) at c.loop-known.invariant

pub returns : goal.returns
returns c = rw (drop_all c.loop-known.known-index c.args.self.now.known.items (rw c.deref-known-items.ensures.value at c.loop-known-test.false)) at c.loop-known.invariant

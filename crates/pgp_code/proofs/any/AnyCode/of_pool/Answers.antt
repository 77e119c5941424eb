use Rattle.std.proofs.Common.{◌≡◌, false, inl, inr, sym, ap, ◌∙◌}
use Rattle.std.proofs.lemmas.Bool.{cases_Bool, false≢true}
use Rattle.pgp_code.specs.Parts.{want_slots}
use Rattle.pgp_code.specs.Pool.{code_of}
use Rattle.pgp_code.proofs.PoolLemmas.{shards-same, parts-same, parts-none}
use Rattle.pgp_code.proofs.any.AnyCode.of_pool.Goals as goal

pub returns-in-Erasure : goal.returns-in-Erasure
returns-in-Erasure c = shards-same c.with_shards.result c.in-Erasure.k c.with_shards.ensures ∙ sym (ap code_of c.in-Erasure.is)

pub returns-in-Some : goal.returns-in-Some
returns-in-Some c = parts-same c.in-Some.code c.in-Grouped.groups c.in-Some.ensures.value ∙ sym (ap code_of c.in-Grouped.is)

pub returns-in-None : goal.returns-in-None
returns-in-None c =
    let none : want_slots c.in-Grouped.groups ≡ false = elim (cases_Bool (want_slots c.in-Grouped.groups)) [
      | inl want ↦ absurd (false≢true (c.in-None.ensures.variant.1 want))
      | inr none ↦ none
    ] in
    shards-same c.with_shards-in-None.result 1 c.with_shards-in-None.ensures
    ∙ sym (parts-none c.in-Grouped.groups none) ∙ sym (ap code_of c.in-Grouped.is)

use Rattle.std.proofs.Common.{◌⊎◌, ℕ, List, true, length, sym, ◌∙◌, subst, inl, inr, arith}
use Rattle.std.specs.List.{Contains}
use Rattle.pgp_reasons.specs.kept.Shape.{is_as_wanted, takes_part}
use Rattle.pgp_reasons.proofs.ShapeLemmas.{AreSplit, any-exact, parted}
use Rattle.pgp_reasons.proofs.shape.any_of.Goals as goal

pub returns : goal.returns
returns g c =
    let enough = g.E.Enough.enough c.args.judge.now in
    let one : List ℕ = c.as_slice-one.result.now in
    let some : List ℕ = c.in_ok-some.some.items in
    let others : List ℕ = c.in_ok-others.others.items in
    let whole : AreSplit enough (length one) some others = record {
      some = omega arith;
      fewer = omega arith;
      enough_of = rw (c.new.ensures.items, c.as_slice.ensures.value) at c.in_ok-is_each.ensures.each c.if-not-branch.false;
      too_few = rw (c.in_ok-is_each.ensures.judge, c.in_ok-is_each.ensures.chosen, c.new.ensures.items, c.as_slice-2.ensures.value, c.as_slice-3.ensures.value) at c.in_ok-is_each-2.ensures.each c.if-not-branch-2.false;
    } in
    let split : AreSplit enough (length one) c.from_vec.result others = subst (λ (l : List ℕ). AreSplit enough (length one) l others) (sym c.from_vec.ensures) whole in
    let parts : (o : ℕ) → Contains c.args.among.now o → Contains c.from_vec.result o ⊎ Contains others o = λ o in'.
    elim (parted (takes_part enough one) c.args.among.now o in') [
      | inl there ↦ inl (subst (λ (l : List ℕ). Contains l o) (sym (c.from_vec.ensures ∙ c.in_ok-some.ensures)) there)
      | inr other ↦ inr (subst (λ (l : List ℕ). Contains l o) (sym c.in_ok-others.ensures) other)
    ] in
    record {
      exact = λ set are. any-exact enough (g.met.E.Enough.monotone c.args.judge.now) (length one) c.args.among.now c.from_vec.result others set split parts are;
      test = λ osd. is_as_wanted true (takes_part enough one osd);
      are = c.from_vec.ensures ∙ c.in_ok-some.ensures;
      some = split.some;
      fewer = split.fewer;
    }

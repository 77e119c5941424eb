-- What is read of the elements of a list that pass a test, and put in order one after the other.
use Rattle.std.proofs.Common.{◌≡◌, ◌⊎◌, ℕ, ◌+◌, ◌<◌, List, ◌∷◌, Bool, true, false, drop, get_or, length, map, subst, sym, inl, inr}
use Rattle.std.specs.List.{filter}
use Rattle.std.proofs.lemmas.List.{drop_more}
use Rattle.pgp_lists.specs.Ordered.{with_item, with_items}

-- the next element passes and goes in, or it doesn't and the list stays
pub put-next : {X Y : Type 0} (before : Y → Y → Bool) (f : X → Y) (test : X → Bool) (xs : List X) (i : ℕ) (x : X) (list after all : List Y) → i < length xs → x ≡ get_or xs i x
    → with_items before (map f (filter test (drop i xs))) list ≡ all
    → (test x ≡ true) × (after ≡ with_item before (f x) list) ⊎ (test x ≡ false) × (after ≡ list)
    → with_items before (map f (filter test (drop (i + 1) xs))) after ≡ all
put-next before f test xs i x list after all below is gives which =
    let next : with_items before (map f (filter test (x ∷ drop (i + 1) xs))) list ≡ all =
    subst (λ y. with_items before (map f (filter test (y ∷ drop (i + 1) xs))) list ≡ all) (sym is) (rw (drop_more xs i x below) at gives) in
    elim which [
      | inl passes ↦ rw passes.1 (rw passes.0 at next)
      | inr fails ↦ rw fails.1 (rw fails.0 at next)
    ]

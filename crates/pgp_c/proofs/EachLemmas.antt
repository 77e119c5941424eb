-- A list that is put into a list, item by item.
use Rattle.std.proofs.Common.{◌≡◌, ℕ, zero, suc, ◌<◌, ◌≤◌, List, [], ◌∷◌, ◌++◌, length, map, take, drop, slice_set, slice_index_or, true, nat_le, refl, ap, arith}
use Rattle.std.proofs.lemmas.Bool.Decides.{nat_tests}
use Rattle.std.proofs.lemmas.List.{length-map}
use Rattle.std.proofs.Math.Seq.{take-length}
use Rattle.pgp_c.specs.Exports.{put_into}

-- one item more
pub put-next : {X Y : Type 0} (f : X → Y) (xs : List X) (ys : List Y) (i : ℕ) (x : X) → i < length xs → length xs ≤ length ys
    → slice_set (map f (take i xs) ++ drop i ys) i (f (slice_index_or xs i x)) ≡ map f (take (suc i) xs) ++ drop (suc i) ys
put-next f [] ys i x below fits = absurd (omega (arith, below))
put-next f (a ∷ xs) [] i x below fits = absurd (omega (arith, fits))
put-next f (a ∷ xs) (b ∷ ys) zero x below fits = refl
put-next f (a ∷ xs) (b ∷ ys) (suc i) x below fits = ap (λ l. f a ∷ l) (put-next f xs ys i x (omega (arith, below)) (omega (arith, fits)))

-- all items
pub put-all : {X Y : Type 0} (f : X → Y) (xs : List X) (ys : List Y) (i : ℕ) → length xs ≤ i → i ≤ length xs → length xs ≤ length ys
    → map f (take i xs) ++ drop i ys ≡ put_into (map f xs) ys
put-all f xs ys i full within fits =
    let e : i ≡ length xs = omega (arith, full, within) in
    let long : nat_le (length xs) (length ys) ≡ true = grind (arith, nat_tests) in
    rw (length-map xs f, long, e, take-length xs) refl

-- The values of a list that C gives, one after the other.
use Rattle.std.proofs.Common.{◌≡◌, ℕ, zero, suc, ◌+◌, ◌<◌, List, [], ◌∷◌, ◌++◌, length, take, get_or, Option, Some, None, option_map, refl, ap, ◌∙◌, arith}
use Rattle.std.proofs.lemmas.List.{take_more}
use Rattle.pgp_lines.specs.Shapes.{◌>>=◌}
use Rattle.pgp_c.specs.Each.{IsWhy, each_given}
use Rattle.pgp_c.specs.declared.status.Status.{Status}
use Rattle.pgp_c.specs.declared.status.Status.TheVariants.{Done, RoomTooSmall, NoMemory, NotOpen, AlreadyOpen, BadArgument, NoList, NoLines}

-- what was there before, where something follows
bind-some : {A B : Type 0} (o : Option A) (rest : A → Option B) (b : B) → (o >>= rest) ≡ Some b → (a : A) × (o ≡ Some a) × (rest a ≡ Some b)
bind-some None rest b is = absurd cc
bind-some (Some a) rest b is = (a, refl, is)

bind-none : {A B : Type 0} (o : Option A) → (o >>= (λ a. let none : Option B = None in none)) ≡ None
bind-none None = refl
bind-none (Some a) = refl

each-snoc : {A B : Type 0} (of_c : A → Option B) (xs : List A) (ys : List B) (x : A) (y : B) → each_given of_c xs ≡ Some ys → of_c x ≡ Some y
    → each_given of_c (xs ++ x ∷ []) ≡ Some (ys ++ y ∷ [])
each-snoc of_c [] ys x y are is = rw is (ap (option_map (λ zs. zs ++ y ∷ [])) are)
each-snoc of_c (a ∷ xs) ys x y are is =
    let one = bind-some (of_c a) (λ v. each_given of_c xs >>= (λ vs. Some (v ∷ vs))) ys are in
    let two = bind-some (each_given of_c xs) (λ vs. Some (one.0 ∷ vs)) ys one.2 in
    let rest = each-snoc of_c xs two.0 x y two.1 is in
    rw (one.1, rest) (ap (option_map (λ zs. zs ++ y ∷ [])) two.2)

-- one value more
pub each-next : {A B : Type 0} (of_c : A → Option B) (xs : List A) (i : ℕ) (d : A) (ys : List B) (y : B) → i < length xs → each_given of_c (take i xs) ≡ Some ys
    → of_c (get_or xs i d) ≡ Some y → each_given of_c (take (i + 1) xs) ≡ Some (ys ++ y ∷ [])
each-next of_c xs i d ys y below are is = ap (each_given of_c) (take_more xs i d below) ∙ each-snoc of_c (take i xs) ys (get_or xs i d) y are is

each-none : {A B : Type 0} (of_c : A → Option B) (xs : List A) (i : ℕ) (d : A) → i < length xs → of_c (get_or xs i d) ≡ None → each_given of_c xs ≡ None
each-none of_c [] i d below is = absurd (omega (arith, below))
each-none of_c (a ∷ xs) zero d below is = rw is refl
each-none of_c (a ∷ xs) (suc i) d below is = rw (each-none of_c xs i d (omega (arith, below)) is) (bind-none (of_c a))

-- why nothing was made of one value is why nothing is made of the list
pub each-why : {A B : Type 0} (of_c : A → Option B) (xs : List A) (i : ℕ) (d : A) (status : Status) → i < length xs → IsWhy status (of_c (get_or xs i d))
    → IsWhy status (each_given of_c xs)
each-why of_c xs i d BadArgument below is = each-none of_c xs i d below is
each-why of_c xs i d NoMemory below is = tt
each-why of_c xs i d Done below is = is
each-why of_c xs i d RoomTooSmall below is = is
each-why of_c xs i d NotOpen below is = is
each-why of_c xs i d AlreadyOpen below is = is
each-why of_c xs i d NoList below is = is
each-why of_c xs i d NoLines below is = is

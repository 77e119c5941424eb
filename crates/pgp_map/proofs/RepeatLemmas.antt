-- Lists in which something is named twice.
use Rattle.std.proofs.Common.{◌≡◌, ◌<◌, ◌≤◌, ℕ, ◌+◌, List, [], ◌∷◌, ◌++◌, Option, Some, None, Bool, true, false, ◌||◌, nat_eq, length, take, get_or, refl, ap, sym, inl, inr, ◌∙◌, arith, Result, IfOk}
use Rattle.std.proofs.lemmas.Bool.{or_cases}
use Rattle.std.specs.List.{filter_map, list_any}
use Rattle.std.specs.Option.{option_eq}
use Rattle.std.proofs.lemmas.List.{take_all}
use Rattle.std.proofs.lemmas.List.Folds.{list_any-append, list_any_more}
use Rattle.std.proofs.lemmas.Result.{IfOk-weaker}
use Rattle.pgp_lists.proofs.Lists.{any-front, any-same}
use Rattle.pgp_lists.proofs.Repeats.{repeat-fresh, repeat-found}
use Rattle.pgp_lists.specs.Repeats.{has_repeat}

-- two lists, one behind the other
pub repeat-append : {X : Type 0} (same : X → X → Bool) (xs ys : List X)
    → has_repeat same (xs ++ ys) ≡ (has_repeat same xs || has_repeat same ys || list_any (λ x. list_any (same x) ys) xs)
repeat-append same [] ys = joined (has_repeat same ys)
  where
    joined : (b : Bool) → b ≡ (b || list_any (λ x. list_any (same x) ys) [])
    joined b = grind arith
repeat-append same (x ∷ xs) ys =
    joined (list_any (same x) (xs ++ ys)) (list_any (same x) xs) (list_any (same x) ys) _ _ _ _ (list_any-append (same x) xs ys) (repeat-append same xs ys)
  where
    joined : (both here there all front back between : Bool) → both ≡ (here || there) → all ≡ (front || back || between)
        → (both || all) ≡ ((here || front) || back || (there || between))
    joined both here there all front back between is rest = grind arith

-- one of two tests
pub any-either : {X : Type 0} (f g : X → Bool) (xs : List X) → list_any (λ x. f x || g x) xs ≡ (list_any f xs || list_any g xs)
any-either f g [] = refl
any-either f g (x ∷ xs) = joined (f x) (g x) _ _ _ (any-either f g xs)
  where
    joined : (a b all p q : Bool) → all ≡ (p || q) → ((a || b) || all) ≡ ((a || p) || (b || q))
    joined a b all p q is = grind arith

-- no item passes a test that none passes
pub any-none : {X : Type 0} (test : X → Bool) (xs : List X) → ((x : X) → test x ≡ false) → list_any test xs ≡ false
any-none test [] none = refl
any-none test (x ∷ xs) none = rw (none x, any-none test xs none) refl

same_number : (a b : ℕ) → nat_eq a b ≡ nat_eq b a
same_number a b = grind arith

-- some item of one list is one of the other, seen from either
pub any-swap : (xs ys : List ℕ) → list_any (λ x. list_any (nat_eq x) ys) xs ≡ list_any (λ y. list_any (nat_eq y) xs) ys
any-swap [] ys = sym (any-none (λ y. list_any (nat_eq y) []) ys (λ y. refl))
any-swap (x ∷ xs) ys =
    (λ i. any-same (nat_eq x) (λ y. nat_eq y x) ys (same_number x) i || any-swap xs ys i)
    ∙ sym (any-either (λ y. nat_eq y x) (λ y. list_any (nat_eq y) xs) ys)

-- numbers that come behind others, of which none is twice and which a set has
pub repeat-behind : (set : ℕ → Bool) (xs ys : List ℕ) (is : Bool) → ((n : ℕ) → set n ≡ list_any (nat_eq n) xs) → has_repeat nat_eq xs ≡ false
    → is ≡ (has_repeat nat_eq ys || list_any set ys) → is ≡ has_repeat nat_eq (xs ++ ys)
repeat-behind set xs ys is has fresh told =
    grind (arith, told, fresh, repeat-append nat_eq xs ys, any-swap xs ys, any-same set (λ n. list_any (nat_eq n) xs) ys has)

-- the numbers that were put in behind others
pub has-behind : (set new : ℕ → Bool) (xs ys : List ℕ) → ((n : ℕ) → set n ≡ list_any (nat_eq n) xs) → ((n : ℕ) → new n ≡ (list_any (nat_eq n) ys || set n))
    → (n : ℕ) → new n ≡ list_any (nat_eq n) (xs ++ ys)
has-behind set new xs ys has put n = grind (arith, has n, put n, list_any-append (nat_eq n) xs ys)

-- numbers behind which others come, some of them twice
pub repeat-before : (xs ys : List ℕ) → has_repeat nat_eq xs ≡ true → has_repeat nat_eq (xs ++ ys) ≡ true
repeat-before xs ys twice = grind (arith, twice, repeat-append nat_eq xs ys)

-- ---- one number after the other is put into a set

-- the numbers that were there, and the first ones of a list, none of them twice
pub record HasPut (old now : ℕ → Bool) (numbers : List ℕ) (k : ℕ) : Type 0 where
  pub fresh : has_repeat nat_eq (take k numbers) ≡ false
  pub none : list_any old (take k numbers) ≡ false
  pub now_is : (n : ℕ) → now n ≡ (list_any (nat_eq n) (take k numbers) || old n)

pub nothing-put : (old : ℕ → Bool) (numbers : List ℕ) → HasPut old old numbers 0
nothing-put old numbers = record { fresh = refl; none = refl; now_is = λ n. refl }

pub one-put : (old now new : ℕ → Bool) (numbers : List ℕ) (k x : ℕ) → k < length numbers → x ≡ get_or numbers k x → now x ≡ false
    → ((n : ℕ) → new n ≡ (nat_eq n x || now n)) → HasPut old now numbers k → HasPut old new numbers (k + 1)
one-put old now new numbers k x within is apart put h =
    record {
      fresh = repeat-fresh nat_eq same_number numbers k x (list_any (nat_eq x) (take k numbers)) true within is h.fresh refl (grind (arith, h.now_is x, apart)) refl;
      none = grind (arith, list_any_more old numbers k x within, is, h.none, h.now_is x, apart);
      now_is = λ n. grind (arith, list_any_more (nat_eq n) numbers k x within, is, put n, h.now_is n);
    }

pub one-met : (old now : ℕ → Bool) (numbers : List ℕ) (k x : ℕ) → k < length numbers → x ≡ get_or numbers k x → now x ≡ true
    → HasPut old now numbers k → (has_repeat nat_eq numbers || list_any old numbers) ≡ true
one-met old now numbers k x within is there h = elim (or_cases (list_any (nat_eq x) (take k numbers)) (old x) (sym (h.now_is x) ∙ there)) [
  | inl twice ↦ rw (repeat-found nat_eq same_number numbers k x true false within is (sym twice) refl refl) refl
  | inr kept ↦
      let found : list_any old (take (k + 1) numbers) ≡ true = grind (arith, list_any_more old numbers k x within, is, kept) in
      rw (any-front old numbers (k + 1) found) (or-true (has_repeat nat_eq numbers))
]
  where
    or-true : (b : Bool) → (b || true) ≡ true
    or-true b = grind arith

pub none-met : (old now : ℕ → Bool) (numbers : List ℕ) (k : ℕ) → length numbers ≤ k → HasPut old now numbers k → (has_repeat nat_eq numbers || list_any old numbers) ≡ false
none-met old now numbers k whole h = rw (sym (ap (has_repeat nat_eq) (take_all k numbers whole)) ∙ h.fresh, sym (ap (list_any old) (take_all k numbers whole)) ∙ h.none) refl

pub all-put : (old now : ℕ → Bool) (numbers : List ℕ) (k : ℕ) → length numbers ≤ k → HasPut old now numbers k → (n : ℕ) → now n ≡ (list_any (nat_eq n) numbers || old n)
all-put old now numbers k whole h n = h.now_is n ∙ ap (λ xs. list_any (nat_eq n) xs || old n) (take_all k numbers whole)

-- ---- lists one behind the other are put into a set

-- a set has these numbers, none of them twice
pub record IsSetOf (set : ℕ → Bool) (numbers : List ℕ) : Type 0 where
  pub fresh : has_repeat nat_eq numbers ≡ false
  pub has_is : (n : ℕ) → set n ≡ list_any (nat_eq n) numbers

pub empty-set : (set : ℕ → Bool) → ((n : ℕ) → set n ≡ false) → IsSetOf set []
empty-set set none = record { fresh = refl; has_is = none }

-- whether a number is met tells whether one is twice in all of them
pub met-is : (set : ℕ → Bool) (xs ys zs : List ℕ) (is : Bool) → IsSetOf set xs → zs ≡ ys → is ≡ (has_repeat nat_eq zs || list_any set zs) → is ≡ has_repeat nat_eq (xs ++ ys)
met-is set xs ys zs is h same told = rw (sym same) (repeat-behind set xs zs is h.has_is h.fresh told)

pub set-of_more : (set new : ℕ → Bool) (xs ys zs : List ℕ) (is : Bool) → IsSetOf set xs → zs ≡ ys → is ≡ (has_repeat nat_eq zs || list_any set zs) → is ≡ false
    → (is ≡ false → (n : ℕ) → new n ≡ (list_any (nat_eq n) zs || set n)) → IsSetOf new (xs ++ ys)
set-of_more set new xs ys zs is h same told none put = record {
  fresh = sym (met-is set xs ys zs is h same told) ∙ none;
  has_is = rw (sym same) (has-behind set new xs zs h.has_is (put none));
}

-- what is said of a list that was made by each item is said of that by all of them
pub repeat-of_all : {X Y E : Type 0} (r : Result Bool E) (same : Y → Y → Bool) (by : List X → List Y) (xs : List X) (made : List Y) (n : ℕ)
    → made ≡ by (take n xs) → length xs ≤ n → IfOk r (λ b. b ≡ has_repeat same made) → IfOk r (λ b. b ≡ has_repeat same (by xs))
repeat-of_all r same by xs made n is all said =
    IfOk-weaker r _ _ (λ b told. told ∙ ap (has_repeat same) (is ∙ ap by (take_all n xs all))) said

-- a place that holds a device is one of the list without the empty places
pub any-held : (osd : ℕ) (sought : Option ℕ) (places : List (Option ℕ)) → sought ≡ Some osd
    → list_any (λ place. option_eq nat_eq place sought) places ≡ list_any (nat_eq osd) (filter_map (λ place. place) places)
any-held osd sought places is = rw is (held places)
  where
    same : (a b : ℕ) → nat_eq a b ≡ nat_eq b a
    same a b = grind arith

    held : (places : List (Option ℕ)) → list_any (λ place. option_eq nat_eq place (Some osd)) places ≡ list_any (nat_eq osd) (filter_map (λ place. place) places)
    held [] = refl
    held (None ∷ places) = held places
    held (Some other ∷ places) = λ i. same other osd i || held places i

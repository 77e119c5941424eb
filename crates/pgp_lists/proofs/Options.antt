-- What is there, and what isn't.
use Rattle.std.proofs.Common.{◌≡◌, Bool, true, false, Option, Some, None, IfSome, is_none, is_some, option_map, cond, refl}

-- something is there
pub some_is : {X : Type 0} (found : Option X) → is_some found ≡ true → (x : X) × (found ≡ Some x)
some_is None some = cc
some_is (Some x) some = (x, refl)

pub none_is : {X : Type 0} (found : Option X) → is_none found ≡ true → found ≡ None
none_is None is = refl
none_is (Some x) is = cc

pub some_mapped : {X Y : Type 0} (f : X → Y) (found : Option X) → is_some (option_map f found) ≡ is_some found
some_mapped f None = refl
some_mapped f (Some x) = refl

pub map_some : {X Y : Type 0} (f : X → Y) (found : Option X) (y : Y) → option_map f found ≡ Some y → (x : X) × (found ≡ Some x) × (f x ≡ y)
map_some f None y is = cc
map_some f (Some x) y is = (x, refl, cc)

pub map_none : {X Y : Type 0} (f : X → Y) (found : Option X) → option_map f found ≡ None → found ≡ None
map_none f None is = refl
map_none f (Some x) is = cc

-- what holds of the value, if there is one
pub some-weaker : {X : Type 0} (found : Option X) (P Q : X → Type 0) → ((x : X) → P x → Q x) → IfSome found P → IfSome found Q
some-weaker None P Q goes is = tt
some-weaker (Some x) P Q goes is = goes x is

-- a first finding isn't there, and so no later one
pub if_none : {X : Type 0} (b : Bool) (x : X) (rest : Option X) → cond b (Some x) rest ≡ None → (b ≡ false) × (rest ≡ None)
if_none true x rest is = cc
if_none false x rest is = (refl, is)

-- what a test lets through
pub if_some : {X : Type 0} (b : Bool) (found : Option X) (x : X) → cond b found None ≡ Some x → (b ≡ true) × (found ≡ Some x)
if_some true found x is = (refl, is)
if_some false found x is = cc

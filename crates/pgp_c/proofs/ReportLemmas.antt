-- The entries of a log that C tells.
use Rattle.std.proofs.Common.{◌≡◌, ◌≤◌, List, [], ◌∷◌, length, map, nat_le, Bool, true, false, ◌&&◌, Option, Some, None, if◌then◌else◌, inl, inr, ◌⊎◌, ap, arith, refl, subst, sym, min, ◌∙◌, length-take}
use Rattle.std.proofs.lemmas.Bool.{cases_Bool}
use Rattle.std.proofs.lemmas.Bool.Decides.{nat_tests}
use Rattle.std.proofs.lemmas.Str.{IsUtf8-from_is_utf8, is_utf8-from_IsUtf8}
use Rattle.std.specs.List.{list_all}
use Rattle.std.specs.Str.{is_utf8}
use Rattle.pgp_c.specs.Each.{IsWhy, each_given}
use Rattle.pgp_c.specs.Locate.{IsName}
use Rattle.pgp_c.specs.Report.{given_log_entry, given_name, is_log_entry, told_log_entry}
use Rattle.pgp_c.specs.declared.report.PgpLogEntry.{PgpLogEntry}
use Rattle.pgp_c.specs.declared.status.Status.{Status}
use Rattle.pgp_c.specs.declared.status.Status.TheVariants.{Done, RoomTooSmall, NoMemory, NotOpen, AlreadyOpen, BadArgument, NoList, NoLines}

both : (a b : Bool) → (a && b) ≡ true → (a ≡ true) × (b ≡ true)
both true b is = (refl, is)
both false b is = absurd cc

all-true : (a b d : Bool) → a ≡ true → b ≡ true → d ≡ true → (a && (b && d)) ≡ true
all-true a b d e f g = rw (e, f, g) refl

-- ---- one entry

given-by : (it : PgpLogEntry) (b : Bool) → is_log_entry it ≡ b → given_log_entry it ≡ (if b then Some (told_log_entry it) else None)
given-by it b is = ap (λ (b' : Bool). if b' then Some (told_log_entry it) else None) is

module _ (it : PgpLogEntry) (room : length it.name ≡ 255) where
  long : length (given_name it) ≡ min it.name_length 255
  long = length-take it.name_length it.name ∙ ap (min it.name_length) room

  -- its name is one
  named : is_log_entry it ≡ true → IsName (given_name it)
  named is =
      let rest = both (nat_le it.deletes 1) (nat_le 1 it.name_length && is_utf8 (given_name it)) is in
      let last = both (nat_le 1 it.name_length) (is_utf8 (given_name it)) rest.1 in
      let some : 1 ≤ it.name_length = grind (arith, nat_tests, last.0) in
      (omega (arith, long), omega (arith, long), IsUtf8-from_is_utf8 (given_name it) last.1)

  -- why there is no name is why there is no entry
  pub unnamed : (why : Status) → (why ≡ BadArgument → IsName (given_name it) → ⊥) → (why ≡ BadArgument) ⊎ (why ≡ NoMemory) → IsWhy why (given_log_entry it)
  unnamed why bad (inr memory) = subst (λ (w : Status). IsWhy w (given_log_entry it)) (sym memory) tt
  unnamed why bad (inl arg) = elim (cases_Bool (is_log_entry it)) [
    | inl is ↦ absurd (bad arg (named is))
    | inr isnt ↦ subst (λ (w : Status). IsWhy w (given_log_entry it)) (sym arg) (given-by it false isnt)
  ]

  pub given-named : it.deletes ≤ 1 → IsName (given_name it) → given_log_entry it ≡ Some (told_log_entry it)
  given-named few name =
      let a : nat_le it.deletes 1 ≡ true = grind (arith, nat_tests) in
      let b : nat_le 1 it.name_length ≡ true = grind (arith, nat_tests, long, name.0) in
      given-by it true (all-true _ _ _ a b (is_utf8-from_IsUtf8 (given_name it) name.2))

-- ---- all of them

each-cons : {A B : Type 0} (of_c : A → Option B) (x : A) (xs : List A) (y : B) (ys : List B) → of_c x ≡ Some y → each_given of_c xs ≡ Some ys
    → each_given of_c (x ∷ xs) ≡ Some (y ∷ ys)
each-cons of_c x xs y ys one rest = rw (one, rest) refl

pub all-given : (log : List PgpLogEntry) → list_all is_log_entry log ≡ true → each_given given_log_entry log ≡ Some (map told_log_entry log)
all-given [] all = refl
all-given (it ∷ log) all =
    let parts = both (is_log_entry it) (list_all is_log_entry log) all in
    each-cons given_log_entry it log (told_log_entry it) (map told_log_entry log) (given-by it true parts.0) (all-given log parts.1)

-- where each is one, only memory may lack
pub only-memory : (log : List PgpLogEntry) (status : Status) → list_all is_log_entry log ≡ true → IsWhy status (each_given given_log_entry log) → status ≡ NoMemory
only-memory log NoMemory all why = refl
only-memory log BadArgument all why = let none : None ≡ Some (map told_log_entry log) = sym why ∙ all-given log all in absurd cc
only-memory log Done all why = absurd why
only-memory log RoomTooSmall all why = absurd why
only-memory log NotOpen all why = absurd why
only-memory log AlreadyOpen all why = absurd why
only-memory log NoList all why = absurd why
only-memory log NoLines all why = absurd why

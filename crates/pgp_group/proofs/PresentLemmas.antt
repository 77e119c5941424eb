-- The members of up, and then those of acting, go into an ascending list one after the other.
use Rattle.pgp_group.proofs.Common.{◌≡◌, List, [], ◌∷◌, ◌++◌, Option, Some, None, cond, arith, cases_Bool, Member, nat_tests}
use Rattle.std.specs.Iterator.{YieldsFirst}
use Rattle.std.specs.Iterator.Adapters.{chain_first, chain_second, chain_first_done, chain_second_done, chain_steps, SecondAnswers}
use Rattle.std.specs.declared.iter.Chain.{Chain}

abbrev Members : Type 0
Members = Chain (List Member) (List Member)

abbrev steps : List Member → Option Member → List Member → Type 0
steps = YieldsFirst (λ (rest : List Member). rest)

-- what the second list has left, and both
abbrev later : Members → List Member
later s = cond (chain_second_done s) [] (chain_second s)

abbrev pub left : Members → List Member
left s = cond (chain_first_done s) [] (chain_first s) ++ later s

later-next : (s t : Members) (x : Member) → chain_second_done t ≡ chain_second_done s → SecondAnswers steps steps s (Some x) t → later s ≡ x ∷ later t
later-next s t x same answers = grind (arith, cases_Bool (chain_second_done s))

later-done : (s t : Members) → chain_second_done t ≡ chain_second_done s → SecondAnswers steps steps s None t → later s ≡ []
later-done s t same answers = grind (arith, cases_Bool (chain_second_done s))

pub left-next : (s t : Members) (x : Member) → chain_steps steps steps s (Some x) t → left s ≡ x ∷ left t
left-next s t x is = grind (arith, nat_tests, later-next)

pub left-done : (s t : Members) → chain_steps steps steps s None t → left s ≡ []
left-done s t is = grind (arith, nat_tests, later-done)

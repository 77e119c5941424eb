use Rattle.std.proofs.Common.{◌≡◌, ◌++◌, [], ◌∷◌, take, map, not, nat_eq}
use Rattle.std.specs.List.{filter}
use Rattle.pgp_whole.specs.Advice.{choice_with}
use Rattle.pgp_whole.proofs.choice.add_one_lost.Given as goal

abbrev pub invariant-loop-osd : goal.invariant-loop-osd
invariant-loop-osd l = l.choices.items ≡ l.initial.choices.items ++ map (λ osd. choice_with (filter (λ other. not (nat_eq other osd)) l.set) (osd ∷ [])) (take l.osd-index l.set)

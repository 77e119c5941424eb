use Rattle.std.proofs.Common.{◌≡◌, [], ◌∷◌, take, map}
use Rattle.pgp_whole.proofs.choice.singles.Given as goal

abbrev pub invariant-loop-osd : goal.invariant-loop-osd
invariant-loop-osd l = l.sets.items ≡ map (λ osd. osd ∷ []) (take l.osd-index l.osds)

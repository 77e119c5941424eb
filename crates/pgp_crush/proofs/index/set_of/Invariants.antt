use Rattle.std.proofs.Common.{◌≡◌, ℤ, take}
use Rattle.std.specs.List.{list_any}
use Rattle.std.specs.Ordering.{int_eq}
use Rattle.std.specs.HashSet as bag
use Rattle.pgp_crush.proofs.index.set_of.Given as goal

abbrev pub invariant-loop-id : goal.invariant-loop-id
invariant-loop-id l = (q : ℤ) → bag.contains int_eq l.set q ≡ list_any (int_eq q) (take l.id-index l.ids)

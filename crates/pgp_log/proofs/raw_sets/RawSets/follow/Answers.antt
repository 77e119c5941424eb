use Rattle.pgp_log.proofs.Common.{◌≡◌, rules, arith, sym, ◌∙◌}
use Rattle.std.proofs.Common.{hash_map_len}
use Rattle.std.proofs.lemmas.Grind.{common_steps}
use Rattle.pgp_log.proofs.RawSetLemmas.{sets-stay}
use Rattle.pgp_log.proofs.raw_sets.RawSets.follow.Goals.{else-may_move-via-then-may_move+else-not-is_empty, else-may_move-via-else-may_move}
use Rattle.pgp_log.proofs.raw_sets.RawSets.follow.Goals as goal

pub returns-else-may_move-clause-next : goal.returns-else-may_move-clause-next
returns-else-may_move-clause-next c log fit are = elim c.else-may_move.branch [
  | else-may_move-via-then-may_move+else-not-is_empty w ↦ let none : hash_map_len c.args.self.now.known ≡ 0 = search rules in record { each = λ pg. first_of (search (rules, none), grind (arith, common_steps)) }
  | else-may_move-via-else-may_move w ↦ sets-stay log c.args.entry.now c.args.self.now fit (sym c.may_move.ensures ∙ w.if-may_move.false) are
]

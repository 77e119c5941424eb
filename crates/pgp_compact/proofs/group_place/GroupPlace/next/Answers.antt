use Rattle.pgp_compact.proofs.Common.{IsRawSet, List, Option, raw_set-stays, subst, sym, then_with, unmoved-unplaced, ℕ, ◌∙◌}
use Rattle.pgp_compact.proofs.CoursesLemmas.{fine}
use Rattle.pgp_compact.proofs.group_place.GroupPlace.next.Goals as goal

pub returns-else-moves : goal.returns-else-moves
returns-else-moves c = λ incs next lies.
    let inc = c.args.inc.now in
    c.on.ensures (then_with incs inc) next.after_is
    (subst (λ (places : List (Option ℕ)). IsRawSet (then_with incs inc) c.args.pg.now places) (sym c.copy.ensures)
    (raw_set-stays incs inc c.args.pg.now c.args.self.now.raw (fine incs inc c.args.after.now next) (unmoved-unplaced incs inc c.args.pg.now (sym c.moves.ensures ∙ c.if-moves.false)) lies.raw_is))

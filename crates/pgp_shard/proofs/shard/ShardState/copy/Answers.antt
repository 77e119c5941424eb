use Rattle.pgp_shard.proofs.Common.{◌≡◌, Some, length, ap, ap₂, sym, ◌∙◌, arith, length-map, arc_value, is_some, scratch_there, view_at, Shard}
use Rattle.pgp_shard.proofs.OwnGroupsLemmas.{view-lent}
use Rattle.pgp_shard.proofs.shard.ShardState.copy.Goals as goal

pub returns-clause-ok : goal.returns-clause-ok
returns-clause-ok c =
    let count : c.len.result ≡ length c.args.self.now.front
    = omega (arith, c.len.ensures, length-map c.self.inside.front.items arc_value, ap (λ (s : Shard). length s.front) c.self.view_is) in
    view-lent c.args.self.now.front c.args.pg.now c.view_of.result c.in-Some.view (c.view_of.ensures.is c.requires.unmarked) c.in-Some.is
    ∙ ap Some (ap₂ (λ n e. view_at n e c.in-Some.view.now) (sym count) (sym c.epoch.ensures) ∙ sym c.in_ok-copy.ensures)

pub returns-in_err-copy-clause-wants : goal.returns-in_err-copy-clause-wants
returns-in_err-copy-clause-wants c = λ memory.
    sym (scratch_there c.args.self.now.front c.args.pg.now)
    ∙ ap is_some (view-lent c.args.self.now.front c.args.pg.now c.view_of.result c.in-Some.view (c.view_of.ensures.is c.requires.unmarked) c.in-Some.is)

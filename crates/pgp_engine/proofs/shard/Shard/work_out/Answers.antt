use Rattle.std.proofs.Common.{◌≡◌, ◌∙◌, List, inl, inr, sym, subst, ap, is_some, true, arith}
use Rattle.std.proofs.lemmas.Grind.{common_steps}
use Rattle.pgp_ids.specs.declared.entry.Entry.{Entry}
use Rattle.pgp_map.specs.Pools.{has_group}
use Rattle.pgp_group.specs.Entries.{incs_of}
use Rattle.pgp_log.specs.Log.{HasInc}
use Rattle.pgp_engine.specs.Shards.{Reader, Serves}
use Rattle.pgp_engine.proofs.ReadLemmas.{had_to_read, lacks_there, seen_by, shown, still_own}
use Rattle.pgp_engine.proofs.shard.Shard.work_out.Goals as goal

pub returns-in_err-absorb_to-clause-reads : goal.returns-in_err-absorb_to-clause-reads
returns-in_err-absorb_to-clause-reads g c is =
    had_to_read _ _ c.args.self.now c.absorb_to.new.self c.longer-target.result c.newest-newest.result _ c.args.q.now
    c.longer-target.ensures.which (c.self.view_is ∙ c.note.ensures) c.newest-newest.ensures.last c.in_err-absorb_to.ensures.on.seen_is c.in_err-absorb_to.ensures.reads

pub returns-in_err-absorb_to-clause-wants : goal.returns-in_err-absorb_to-clause-wants
returns-in_err-absorb_to-clause-wants g c is =
    inl (had_to_read _ _ c.args.self.now c.absorb_to.new.self c.longer-target.result c.newest-newest.result _ c.args.q.now
    c.longer-target.ensures.which (c.self.view_is ∙ c.note.ensures) c.newest-newest.ensures.last c.in_err-absorb_to.ensures.on.seen_is c.in_err-absorb_to.ensures.reads)

pub returns-in_err-absorb_to-clause-wants_there : goal.returns-in_err-absorb_to-clause-wants_there
returns-in_err-absorb_to-clause-wants_there g c is kept =
    inl (had_to_read _ _ c.args.self.now c.absorb_to.new.self c.longer-target.result c.newest-newest.result _ c.args.q.now
    c.longer-target.ensures.which (c.self.view_is ∙ c.note.ensures) c.newest-newest.ensures.last c.in_err-absorb_to.ensures.on.seen_is c.in_err-absorb_to.ensures.reads)

pub invariant_of-self : goal.invariant_of-self
invariant_of-self g c = grind (arith, common_steps)

pub absorb_to-requires-clause-more : goal.absorb_to-requires-clause-more
absorb_to-requires-clause-more g c = grind (arith, common_steps)

pub returns-in_err-absorb_to-clause-on : goal.returns-in_err-absorb_to-clause-on
returns-in_err-absorb_to-clause-on g c = grind (arith, common_steps)

pub work_out-requires : goal.work_out-requires
work_out-requires g c = subst (λ (s : Reader). Serves s c.args.pg.now) (sym c.self-2.view_is)
    (still_own c.args.pg.now _ c.args.self.now c.absorb_to.new.self (ap (λ (s : Reader). s.shard) (c.self.view_is ∙ c.note.ensures))
    (ap (λ (s : Reader). s.shards) (c.self.view_is ∙ c.note.ensures)) c.in_ok-absorb_to.ensures.on c.requires.serves)

pub returns-in-Ok-clause-shown : goal.returns-in-Ok-clause-shown
returns-in-Ok-clause-shown g c =
    shown c.args.q.now c.longer-target.result c.args.pg.now c.self-2.inside.state _ _ c.longer-target.ensures.that.front
    (ap (λ (s : Reader). s.front) c.self-2.view_is ∙ c.in_ok-absorb_to.ensures.ok)
    (subst (λ (s : Reader). Serves s c.args.pg.now) (sym c.self-2.view_is)
    (still_own c.args.pg.now _ c.args.self.now c.absorb_to.new.self (ap (λ (s : Reader). s.shard) (c.self.view_is ∙ c.note.ensures))
    (ap (λ (s : Reader). s.shards) (c.self.view_is ∙ c.note.ensures)) c.in_ok-absorb_to.ensures.on c.requires.serves))
    c.work_out.ensures.same (c.work_out.ensures.marks (λ e. cc))

pub returns-in-Err-UnknownGroup-clause-shown : goal.returns-in-Err-UnknownGroup-clause-shown
returns-in-Err-UnknownGroup-clause-shown g c =
    shown c.args.q.now c.longer-target.result c.args.pg.now c.self-2.inside.state _ _ c.longer-target.ensures.that.front
    (ap (λ (s : Reader). s.front) c.self-2.view_is ∙ c.in_ok-absorb_to.ensures.ok)
    (subst (λ (s : Reader). Serves s c.args.pg.now) (sym c.self-2.view_is)
    (still_own c.args.pg.now _ c.args.self.now c.absorb_to.new.self (ap (λ (s : Reader). s.shard) (c.self.view_is ∙ c.note.ensures))
    (ap (λ (s : Reader). s.shards) (c.self.view_is ∙ c.note.ensures)) c.in_ok-absorb_to.ensures.on c.requires.serves))
    c.work_out.ensures.same (c.work_out.ensures.marks (λ e. cc))

pub returns-clause-wants : goal.returns-clause-wants
returns-clause-wants g c is = inr (subst (λ (l : List Entry). HasInc l) (sym c.work_out.ensures.same.front_is) (c.work_out.ensures.wants cc))

pub returns-clause-wants_there : goal.returns-clause-wants_there
returns-clause-wants_there g c is =
    let after = c.work_out.new.self in
    lacks_there _ _ c.args.self.now c.absorb_to.new.self
    (record { front = after.front; shard = after.shard; shards = after.shards; marks = after.marks; worked = after.worked; seen = _ }) c.longer-target.result c.newest-newest.result _ c.args.q.now c.args.pg.now
    c.longer-target.ensures.which (c.self.view_is ∙ c.note.ensures) c.newest-newest.ensures.last
    (seen_by _ _ _ c.self-2.view_is c.in_ok-absorb_to.ensures.on.seen_is)
    c.in_ok-absorb_to.ensures.on.front_is c.in_ok-absorb_to.ensures.ok c.in_ok-absorb_to.ensures.marks
    (subst (λ (s : Reader). is_some s.marks ≡ true → has_group (incs_of s.front) c.args.pg.now ≡ true) c.self-2.view_is
    (c.work_out.ensures.wants_there cc))
    (c.work_out.ensures.same.front_is ∙ ap (λ (s : Reader). s.front) c.self-2.view_is)

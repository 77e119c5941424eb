use Rattle.pgp_shard.proofs.Common.{◌≡◌, length, take, drop, ap, ◌∙◌, arith, arc_value, on_ok_weaker, on_err_weaker}
use Rattle.pgp_shard.proofs.RunningLemmas.{front-within, next-legal, reads-all, reads-fewer, still-reading}
use Rattle.pgp_shard.proofs.shard.ShardState.absorb_next.Goals as goal
use Rattle.pgp_shard.proofs.shard.ShardState.absorb_next.Goals.{After-unread_entries-next}

news : (c : After-unread_entries-next) → c.unread_entries-next.result.now ≡ take c.args.count (drop (length c.args.self.now.front) c.args.log.now)
news c = c.unread_entries-next.ensures ∙ ap (λ n. take c.args.count (drop n c.args.log.now)) c.count.ensures

pub unread_entries-next-requires : goal.unread_entries-next-requires
unread_entries-next-requires c = omega (arith, c.count.ensures, front-within arc_value c.args.log.now c.args.self.now.front c.requires.front)

pub absorb_all-requires : goal.absorb_all-requires
absorb_all-requires c = rw (news (goal.at.absorb_all-requires c).After-unread_entries-next) (next-legal arc_value c.args.log.now c.args.self.now.front c.args.count c.requires.legal c.requires.front)

pub returns-clause-ok : goal.returns-clause-ok
returns-clause-ok c =
    on_ok_weaker _ (reads-all arc_value c.args.log.now c.args.count c.args.self.now c.absorb_all.new.self c.requires.front) (rw (news (goal.at.returns-clause-ok c).After-unread_entries-next) at c.absorb_all.ensures.ok)

pub returns-clause-err : goal.returns-clause-err
returns-clause-err c =
    on_err_weaker _ (reads-fewer arc_value c.args.log.now c.args.count c.args.self.now c.absorb_all.new.self c.requires.front) (rw (news (goal.at.returns-clause-err c).After-unread_entries-next) at c.absorb_all.ensures.err)

pub returns-clause-reading : goal.returns-clause-reading
returns-clause-reading c =
    still-reading arc_value c.args.log.now c.args.count c.args.self.now c.absorb_all.new.self c.absorb_all.result c.requires.front
    (rw (news (goal.at.returns-clause-reading c).After-unread_entries-next) at c.absorb_all.ensures.ok) (rw (news (goal.at.returns-clause-reading c).After-unread_entries-next) at c.absorb_all.ensures.err)

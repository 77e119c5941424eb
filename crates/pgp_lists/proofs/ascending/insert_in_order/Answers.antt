use Rattle.std.proofs.Common.{sym, ◌∙◌}
use Rattle.pgp_lists.proofs.Searched.{put_new, put_there}
use Rattle.pgp_lists.proofs.ascending.insert_in_order.Goals as goal

pub returns-in-Ok-clause-ok : goal.returns-in-Ok-clause-ok
returns-in-Ok-clause-ok g c =
    sym (put_there g.met.T.Ord.total c.args.list.now.items c.in-Ok.field-0 c.args.item c.requires
    (rw c.deref.ensures.value at c.in-Ok.ensures.bound) (rw c.deref.ensures.value at c.in-Ok.ensures.ok))

pub returns-in_ok-insert-in-Err-clause-ok : goal.returns-in_ok-insert-in-Err-clause-ok
returns-in_ok-insert-in-Err-clause-ok g c =
    c.in_ok-insert-in-Err.ensures.items
    ∙ put_new g.met.T.Ord.total c.args.list.now.items c.in-Err.place c.args.item c.requires
    (rw c.deref.ensures.value at c.in-Err.ensures.bound) (rw c.deref.ensures.value at c.in-Err.ensures.position)

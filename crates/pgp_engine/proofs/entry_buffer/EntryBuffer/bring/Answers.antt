use Rattle.std.proofs.Common.{ap, ◌∙◌, inr, arith}
use Rattle.pgp_log.specs.Log.{is_legal}
use Rattle.pgp_log.proofs.SharedLemmas.{on_err}
use Rattle.pgp_feed.specs.Receipts.{entries_of}
use Rattle.pgp_engine.proofs.FrontLemmas.{filled}
use Rattle.pgp_engine.proofs.FollowerLemmas.{filled-fewer, filled-more, filled-whole, none-more, short-fewer, taken-count, taken-whole}
use Rattle.pgp_engine.proofs.entry_buffer.EntryBuffer.bring.Goals as goal

pub returns-then-taken-len-clause-whole : goal.returns-then-taken-len-clause-whole
returns-then-taken-len-clause-whole g c =
    let here = c.requires.follows in
    taken-whole _ (entries_of c.args.front.now) c.args.follower.now here
    (omega (arith, c.taken-taken.ensures here.taken here.is, c.len.ensures.length, c.if-taken-len.true))

pub returns-then-taken-len-clause-more : goal.returns-then-taken-len-clause-more
returns-then-taken-len-clause-more g c = none-more _ _ _

pub read-requires-clause-taken : goal.read-requires-clause-taken
read-requires-clause-taken g c =
    let here = c.requires.follows in
    omega (arith, c.taken-taken.ensures here.taken here.is, taken-count _ _ _ here)

pub returns-in_err-list-clause-more : goal.returns-in_err-list-clause-more
returns-in_err-list-clause-more g c = none-more _ _ _

pub returns-in_err-list-clause-reads : goal.returns-in_err-list-clause-reads
returns-in_err-list-clause-reads g c =
    let here = c.requires.follows in
    on_err c.from_residual.result _ (λ taken is. omega (
      arith,
      c.taken-taken.ensures taken is,
      c.taken-taken.ensures here.taken here.is,
      taken-count _ _ _ here,
      c.len.ensures.length,
      c.if-taken-len.false,
    ))

pub returns-in_err-list-clause-fewer : goal.returns-in_err-list-clause-fewer
returns-in_err-list-clause-fewer g c =
    let here = c.requires.follows in
    on_err c.from_residual.result _ (short-fewer _ (entries_of c.args.front.now) c.args.follower.now here
    (omega (arith, c.taken-taken.ensures here.taken here.is, taken-count _ _ _ here, c.len.ensures.length, c.if-taken-len.false)))

pub take_all-requires : goal.take_all-requires
take_all-requires g c =
    let here = c.requires.follows in
    record {
      log = here.taken;
      is = here.is;
      legal = ap is_legal (filled here.taken _ _ _ _ here.is_front (c.taken-taken.ensures here.taken here.is) c.as_slice.ensures.value c.in_ok-list.ensures.read) ∙ c.len.ensures.legal;
    }

pub returns-in-Ok-clause-whole : goal.returns-in-Ok-clause-whole
returns-in-Ok-clause-whole g c =
    let here = c.requires.follows in
    filled-whole _ (entries_of c.args.front.now) c.args.follower.now c.take_all.new.follower c.taken-taken.result _ _ here
    (c.taken-taken.ensures here.taken here.is) c.as_slice.ensures.value c.in_ok-list.ensures.read c.len.ensures.legal c.in-Ok.ensures.whole

pub returns-in-Ok-clause-more : goal.returns-in-Ok-clause-more
returns-in-Ok-clause-more g c taken is part =
    filled-more _ (entries_of c.args.front.now) c.args.follower.now c.take_all.new.follower c.taken-taken.result _ _ taken is part
    (c.taken-taken.ensures taken is) c.as_slice.ensures.value c.in_ok-list.ensures.read c.len.ensures.legal c.in-Ok.ensures.more

pub returns-in-Ok-clause-idle : goal.returns-in-Ok-clause-idle
returns-in-Ok-clause-idle g c is = absurd (omega (arith, c.taken-taken.ensures _ is, c.len.ensures.length, c.if-taken-len.false))

pub returns-in-Ok-clause-seen : goal.returns-in-Ok-clause-seen
returns-in-Ok-clause-seen g c = inr c.in_ok-list.ensures.seen

pub returns-in-Err-clause-more : goal.returns-in-Err-clause-more
returns-in-Err-clause-more g c taken is part =
    filled-more _ (entries_of c.args.front.now) c.args.follower.now c.take_all.new.follower c.taken-taken.result _ _ taken is part
    (c.taken-taken.ensures taken is) c.as_slice.ensures.value c.in_ok-list.ensures.read c.len.ensures.legal c.in-Err.ensures.more

pub returns-in-Err-clause-idle : goal.returns-in-Err-clause-idle
returns-in-Err-clause-idle g c is = absurd (omega (arith, c.taken-taken.ensures _ is, c.len.ensures.length, c.if-taken-len.false))

pub returns-in-Err-clause-seen : goal.returns-in-Err-clause-seen
returns-in-Err-clause-seen g c = inr c.in_ok-list.ensures.seen

pub returns-in-Err-clause-reads : goal.returns-in-Err-clause-reads
returns-in-Err-clause-reads g c taken is =
    let here = c.requires.follows in
    omega (arith, c.taken-taken.ensures taken is, c.taken-taken.ensures here.taken here.is, taken-count _ _ _ here, c.len.ensures.length, c.if-taken-len.false)

pub returns-in-Err-clause-fewer : goal.returns-in-Err-clause-fewer
returns-in-Err-clause-fewer g c =
    let here = c.requires.follows in
    filled-fewer _ (entries_of c.args.front.now) c.args.follower.now c.take_all.new.follower c.taken-taken.result _ _ here
    (c.taken-taken.ensures here.taken here.is) c.as_slice.ensures.value c.in_ok-list.ensures.read c.len.ensures.legal c.in-Err.ensures.fewer

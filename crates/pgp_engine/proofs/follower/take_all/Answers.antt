use Rattle.std.proofs.Common.{◌++◌, List, map, take, refl, sym, ◌∙◌, subst, arith, append-nil}
use Rattle.std.proofs.lemmas.List.{take_all}
use Rattle.std.specs.Arc.{arc_value}
use Rattle.pgp_ids.specs.declared.entry.Entry.{Entry}
use Rattle.pgp_log.proofs.SharedLemmas.{next-after, next-of-legal, on_err}
use Rattle.pgp_engine.proofs.FollowerLemmas.{fewer-of-part, more-of-part}
use Rattle.pgp_engine.proofs.follower.take_all.Goals as goal

pub take_next-requires : goal.take_next-requires
take_next-requires g c = record {
  log = c.requires.log ++ map arc_value (take c.loop-entry.entry-index c.args.entries.now);
  is = c.loop-entry.invariant.taken c.requires.log c.requires.is c.requires.legal;
  fits = next-of-legal c.requires.log arc_value c.args.entries.now c.loop-entry.entry-index c.entry-item.result c.requires.legal c.loop-entry-test.true c.entry-item.is;
}

pub loop-entry-init : goal.loop-entry-init
loop-entry-init g c = record {
  taken = λ log is legal. subst (λ (l : List Entry). g.F.Follower.has_taken l c.args.follower.now) (sym (append-nil log)) is;
  same = refl;
}

pub loop-entry-preserved : goal.loop-entry-preserved
loop-entry-preserved g c =
    let entries = c.args.entries.now in
    let i = c.loop-entry.entry-index in
    let new = c.entry-item.result in record {
      taken = λ log is legal. subst (λ (l : List Entry). g.F.Follower.has_taken l c.take_next.new.self)
          (sym (next-after log arc_value entries i new c.loop-entry-test.true c.entry-item.is))
          (c.in_ok-take_next.ensures.ok (log ++ map arc_value (take i entries)) (c.loop-entry.invariant.taken log is legal)
          (next-of-legal log arc_value entries i new legal c.loop-entry-test.true c.entry-item.is));
      same = c.take_next.ensures.same ∙ c.loop-entry.invariant.same;
    }

pub returns-in_err-take_next-clause-more : goal.returns-in_err-take_next-clause-more
returns-in_err-take_next-clause-more g c log is legal =
    more-of-part _ log arc_value c.args.entries.now c.loop-entry.entry-index _
    (c.in_err-take_next.ensures.err _ (c.loop-entry.invariant.taken log is legal))

pub returns-in_err-take_next-clause-fewer : goal.returns-in_err-take_next-clause-fewer
returns-in_err-take_next-clause-fewer g c = on_err c.from_residual.result _ (λ log is legal.
    fewer-of-part _ log arc_value c.args.entries.now c.loop-entry.entry-index _ c.loop-entry-test.true
    (c.in_err-take_next.ensures.err _ (c.loop-entry.invariant.taken log is legal)))

pub returns-clause-whole : goal.returns-clause-whole
returns-clause-whole g c log is legal =
    let entries = c.args.entries.now in
    subst (λ l. g.F.Follower.has_taken (log ++ map arc_value l) c.loop-entry.follower) (take_all c.loop-entry.entry-index entries (omega (arith, c.loop-entry-test.false)))
    (c.loop-entry.invariant.taken log is legal)

pub returns-clause-more : goal.returns-clause-more
returns-clause-more g c log is legal =
    more-of-part _ log arc_value c.args.entries.now c.loop-entry.entry-index _ (c.loop-entry.invariant.taken log is legal)

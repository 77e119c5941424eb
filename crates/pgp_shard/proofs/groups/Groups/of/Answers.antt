use Rattle.pgp_shard.proofs.Common.{◌≡◌, ◌+◌, List, [], ◌∷◌, ◌++◌, None, map, take, drop, ap, sym, subst, take_all, arc_value, Entry, AreOwnGroupsOf, CanAbsorb, fits, HasInc}
use Rattle.pgp_log.proofs.ComingLemmas.{inc-front}
use Rattle.pgp_log.proofs.SharedLemmas.{map-next, next-front, next-of-legal, on_err}
use Rattle.pgp_shard.proofs.groups.Groups.of.Goals as goal

pub absorb-requires : goal.absorb-requires
absorb-requires c =
    let i = c.loop-entry.entry-index in
    let shared = c.args.entries.now in
    subst (CanAbsorb c.args.owner c.loop-entry.groups) (sym c.deref.ensures) (record {
      log = map arc_value (take i shared);
      is = c.loop-entry.invariant.is;
      fits = next-of-legal [] arc_value shared i c.entry-item.result c.requires c.loop-entry-test.true c.entry-item.is;
    })

pub loop-entry-init : goal.loop-entry-init
loop-entry-init c = record { is = c.new-groups.ensures.is c.args.owner; marked = c.new-groups.ensures.marked }

pub loop-entry-preserved : goal.loop-entry-preserved
loop-entry-preserved c =
    let shared = c.args.entries.now in
    let i = c.loop-entry.entry-index in
    let new = c.entry-item.result in
    let log = map arc_value (take i shared) in
    let fit : fits log (arc_value new) ≡ None = next-of-legal [] arc_value shared i new c.requires c.loop-entry-test.true c.entry-item.is in
    let now : AreOwnGroupsOf c.args.owner (map arc_value (take (i + 1) shared)) c.absorb.new.self =
    rw (map-next arc_value shared i new c.loop-entry-test.true c.entry-item.is, ← c.deref.ensures)
    (c.in_ok-absorb.ensures.ok log c.loop-entry.invariant.is (rw c.deref.ensures fit)) in
    record { is = now; marked = c.in_ok-absorb.ensures.marked c.loop-entry.invariant.marked }

pub returns-in_err-absorb-clause-wants : goal.returns-in_err-absorb-clause-wants
returns-in_err-absorb-clause-wants c =
    let shared = c.args.entries.now in
    let i = c.loop-entry.entry-index in
    let new = c.entry-item.result in
    let log = map arc_value (take i shared) in
    let has : HasInc (log ++ arc_value new ∷ []) = rw (← c.deref.ensures) (c.in_err-absorb.ensures.wants log c.loop-entry.invariant.is) in
    on_err c.from_residual.result (HasInc (map arc_value shared))
    (subst HasInc (sym (next-front arc_value shared i new c.loop-entry-test.true c.entry-item.is)) (inc-front (log ++ arc_value new ∷ []) (map arc_value (drop (i + 1) shared)) has))

pub returns-clause-is : goal.returns-clause-is
returns-clause-is c =
    let shared = c.args.entries.now in
    subst (λ (l : List Entry). AreOwnGroupsOf c.args.owner l c.loop-entry.groups) (ap (map arc_value) (take_all c.loop-entry.entry-index shared c.loop-entry-test.false)) c.loop-entry.invariant.is

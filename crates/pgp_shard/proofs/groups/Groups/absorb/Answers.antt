use Rattle.pgp_shard.proofs.Common.{◌≡◌, [], ◌∷◌, None, refl, ap, sym, ◌∙◌, subst, on_err_weaker, on_ok_weaker, Entry, inc_of, is_touched, fits, CanAbsorb}
use Rattle.pgp_ids.specs.declared.entry.Entry.TheVariants as entry
use Rattle.pgp_log.proofs.ComingLemmas.{inc-after, inc-front}
use Rattle.pgp_shard.proofs.GroupsLemmas.{groups-on}
use Rattle.pgp_shard.proofs.KeptLemmas.{kept-untold}
use Rattle.pgp_log.proofs.SharedLemmas.{ok-two}
use Rattle.pgp_shard.proofs.MarksLemmas.{pool-left}
use Rattle.pgp_shard.proofs.OwnGroupsLemmas.{own-told, step-ends}
use Rattle.pgp_shard.proofs.WorkedLemmas.{keeps-none, keeps-on}
use Rattle.pgp_log.proofs.SharedLemmas.{on_err}
use Rattle.pgp_shard.proofs.groups.Groups.absorb.Goals as goal

pub absorb_inc-requires : goal.absorb_inc-requires
absorb_inc-requires c = record { owner = c.args.owner; can = subst (CanAbsorb c.args.owner c.args.self.now) c.in-Inc.is c.requires }

pub add_pools-requires : goal.add_pools-requires
add_pools-requires c = record {
  log = c.requires.log;
  is = c.in_ok-absorb_inc-in-Inc.ensures.ok c.args.owner c.requires.log c.requires.is (ap (fits c.requires.log) (sym c.in-Inc.is) ∙ c.requires.fits);
}

pub returns-in_err-absorb_inc-in-Inc-clause-wants : goal.returns-in_err-absorb_inc-in-Inc-clause-wants
returns-in_err-absorb_inc-in-Inc-clause-wants c = on_err c.from_residual.result _ (λ log is. inc-after log c.args.entry.now c.in-Inc.inc (ap inc_of c.in-Inc.is))

pub returns-in_ok-absorb_inc-in-Inc : goal.returns-in_ok-absorb_inc-in-Inc
returns-in_ok-absorb_inc-in-Inc c =
    let owner = c.args.owner in
    let inc = c.in-Inc.inc in
    rw c.in-Inc.is (record {
      ok = ok-two c.add_pools.result _ _ _
          (λ ok own log is fit.
          let first = c.in_ok-absorb_inc-in-Inc.ensures.ok owner log is fit in
          step-ends owner log inc c.add_pools.new.self (ok log first) (own log first))
          c.add_pools.ensures.ok c.add_pools.ensures.own;
      marks = on_ok_weaker c.add_pools.result
          (λ given log is fit pg untouched. given pg (pool-left log inc pg untouched) ∙ c.in_ok-absorb_inc-in-Inc.ensures.marks owner log is fit pg untouched)
          c.add_pools.ensures.marks;
      kept = on_ok_weaker c.add_pools.result
          (λ still. keeps-on c.args.self.now c.absorb_inc.new.self c.add_pools.new.self c.in_ok-absorb_inc-in-Inc.ensures.kept still.kept) c.add_pools.ensures.still;
      marked = on_ok_weaker c.add_pools.result (λ still all. still.marked (c.in_ok-absorb_inc-in-Inc.ensures.marked all)) c.add_pools.ensures.still;
      wants = on_err c.add_pools.result _ (λ log is. inc-after log (entry.Inc inc) inc refl);
    })

pub returns-in-Info : goal.returns-in-Info
returns-in-Info c =
    let new = c.args.entry.now in
    let none : inc_of new ≡ None = ap inc_of c.in-Info.is in
    let taken = c.absorb_report.ensures in
    record {
      ok = on_ok_weaker c.absorb_report.result
          (λ given log is fit. given c.args.owner log none fit (λ other differs. ap (λ (e : Entry). is_touched log e other) c.in-Info.is ∙ differs) is) taken.ok;
      marks = on_ok_weaker c.absorb_report.result
          (λ given log is fit other untouched. given other (ap (λ (e : Entry). is_touched log e other) (sym c.in-Info.is) ∙ untouched)) taken.marks;
      kept = taken.kept;
      marked = taken.marked;
      wants = on_err_weaker c.absorb_report.result (λ given log is. inc-front log (new ∷ []) (given c.args.owner log is)) taken.wants;
    }

pub returns-in-Entries : goal.returns-in-Entries
returns-in-Entries c =
    let new = c.args.entry.now in
    let none : inc_of new ≡ None = ap inc_of c.in-Entries.is in
    let taken = c.absorb_report-in-Entries.ensures in
    record {
      ok = on_ok_weaker c.absorb_report-in-Entries.result
          (λ given log is fit. given c.args.owner log none fit (λ other differs. ap (λ (e : Entry). is_touched log e other) c.in-Entries.is ∙ differs) is) taken.ok;
      marks = on_ok_weaker c.absorb_report-in-Entries.result
          (λ given log is fit other untouched. given other (ap (λ (e : Entry). is_touched log e other) (sym c.in-Entries.is) ∙ untouched)) taken.marks;
      kept = taken.kept;
      marked = taken.marked;
      wants = on_err_weaker c.absorb_report-in-Entries.result (λ given log is. inc-front log (new ∷ []) (given c.args.owner log is)) taken.wants;
    }

pub returns-in-Close-clause-ok : goal.returns-in-Close-clause-ok
returns-in-Close-clause-ok c = λ log is fit.
    let new = c.args.entry.now in
    let old = c.args.self.now in
    let none : inc_of new ≡ None = ap inc_of c.in-Close.is in
    own-told c.args.owner log new old old none fit refl
    (groups-on log _ old old.map (λ place kept at. kept-untold log new kept none (ap (λ (e : Entry). is_touched log e kept.pg) c.in-Close.is)) is.groups_are) refl is

pub returns-in-Close-clause-kept : goal.returns-in-Close-clause-kept
returns-in-Close-clause-kept c = keeps-none c.args.self.now

use Rattle.pgp_shard.proofs.Common.{List, [], Option, ap, option_map, option_map_or, worked_in, map, length, refl, sym, subst, arc_value, on_err_weaker, Entry, HaveChanged, HasInc, Shard, marks_of, shard_with, Groups}
use Rattle.std.proofs.lemmas.Result.{IfOk-weaker}
use Rattle.pgp_log.proofs.SharedLemmas.{on_err}
use Rattle.pgp_shard.proofs.ChangedLemmas.{have-changed}
use Rattle.pgp_shard.proofs.MarksLemmas.{ok-anyhow}
use Rattle.pgp_shard.proofs.ShardLemmas.{still-read, works-out}
use Rattle.pgp_shard.proofs.WorkedLemmas.{renews-none}
use Rattle.pgp_shard.specs.kept.Groups.{AreMadeBeside}
use Rattle.pgp_shard.proofs.KeptBesideLemmas.{made-there}
use Rattle.pgp_shard.proofs.shard.ShardState.changed_since.Goals as goal
use Rattle.pgp_shard.proofs.shard.ShardState.changed_since.Goals.{In-Some}

made : (c : In-Some) → AreMadeBeside c.self.inside.owner (map arc_value c.self.inside.front.items) c.self.inside.groups c.in-Some.groups
made c =
    made-there c.self.inside.owner (map arc_value c.as_slice.result.now) (map arc_value c.self.inside.front.items) c.self.inside.groups c.make_groups.new.kept c.in-Some.groups
    (ap (map arc_value) c.as_slice.ensures.value) c.in-Some.is c.in_ok-make_groups.ensures.made

pub make_groups-requires : goal.make_groups-requires
make_groups-requires c = rw c.as_slice.ensures.value c.self.invariant

pub invariant_of-self : goal.invariant_of-self
invariant_of-self c = record { legal = c.self.invariant.legal; groups_are = rw c.in_err-make_groups.ensures.away tt }

pub invariant_of-self-2 : goal.invariant_of-self-2
invariant_of-self-2 c = record { legal = c.self.invariant.legal; groups_are = rw c.in-Some.is (made (goal.at.invariant_of-self-2 c).In-Some).are }

pub returns-in_err-make_groups-clause-same : goal.returns-in_err-make_groups-clause-same
returns-in_err-make_groups-clause-same c = still-read _ _ _ _ _ _ _ _ c.self.view_is

pub returns-in_err-make_groups-clause-wants : goal.returns-in_err-make_groups-clause-wants
returns-in_err-make_groups-clause-wants c =
    on_err c.from_residual.result _ (subst (λ (s : Shard). HasInc s.front) c.self.view_is (rw (← c.as_slice.ensures.value) c.in_err-make_groups.ensures.wants))

pub returns-clause-same : goal.returns-clause-same
returns-clause-same c = still-read _ _ _ _ _ _ _ _ c.self.view_is

pub returns-clause-marks : goal.returns-clause-marks
returns-clause-marks c = ok-anyhow c.newer.result _ (record {
  marked = marks_of c.in-Some.groups;
  were = rw (← c.self.view_is) (made (goal.at.returns-clause-marks c).In-Some).marks;
  left = ap (option_map marks_of) c.in-Some.is;
})

pub returns-clause-worked : goal.returns-clause-worked
returns-clause-worked c =
    let groups : Groups = c.in-Some.groups in
    ok-anyhow c.newer.result _
    (works-out c.args.self.now _ (length c.args.self.now.front) groups groups
    (rw (← c.self.view_is) (made (goal.at.returns-clause-worked c).In-Some).marks) (rw (← c.self.view_is) (made (goal.at.returns-clause-worked c).In-Some).worked)
    (renews-none (length c.args.self.now.front) groups) refl (ap (option_map marks_of) c.in-Some.is)
    (ap (λ (o : Option Groups). option_map_or (λ kept. worked_in kept.kept.items) o []) c.in-Some.is))

pub returns-clause-changed : goal.returns-clause-changed
returns-clause-changed c =
    let owner = c.self.inside.owner in
    let front : List Entry = map arc_value c.self.inside.front.items in
    let groups : Groups = c.in-Some.groups in
    IfOk-weaker c.newer.result _ _
    (λ ids is. subst (HaveChanged c.args.count (shard_with owner front c.make_groups.new.kept)) (sym is) (rw c.in-Some.is
    (have-changed owner front groups c.args.count (made (goal.at.returns-clause-changed c).In-Some).are))) c.newer.ensures.are

pub returns-clause-wants : goal.returns-clause-wants
returns-clause-wants c =
    on_err_weaker c.newer.result (λ given. subst (λ (s : Shard). HasInc s.front) c.self.view_is
    (given c.self.inside.owner (map arc_value c.self.inside.front.items) (made (goal.at.returns-clause-wants c).In-Some).are)) c.newer.ensures.wants

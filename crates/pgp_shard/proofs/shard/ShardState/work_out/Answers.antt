use Rattle.pgp_shard.proofs.Common.{◌≡◌, map, length, refl, is_some, option_map, true, true≢false, ap, sym, ◌∙◌, arith, subst, arc_value, length-map, has_group, incs_of, marks_of, AreMarked, HasInc, Shard, Groups, Option, Some}
use Rattle.pgp_shard.proofs.ShardLemmas.{still-read, works-out}
use Rattle.pgp_shard.specs.kept.Groups.{AreMadeBeside}
use Rattle.pgp_shard.proofs.KeptBesideLemmas.{made-there}
use Rattle.pgp_shard.proofs.shard.ShardState.work_out.Goals as goal
use Rattle.pgp_shard.proofs.shard.ShardState.work_out.Goals.{In-Some}

made : (c : In-Some) → AreMadeBeside c.self.inside.owner (map arc_value c.self.inside.front.items) c.self.inside.groups c.in-Some.groups
made c =
    made-there c.self.inside.owner (map arc_value c.as_slice.result.now) (map arc_value c.self.inside.front.items) c.self.inside.groups c.make_groups.new.kept c.in-Some.groups
    (ap (map arc_value) c.as_slice.ensures.value) c.in-Some.is c.in_ok-make_groups.ensures.made

pub invariant_of-self-in_err-work_out : goal.invariant_of-self-in_err-work_out
invariant_of-self-in_err-work_out c =
    let front = map arc_value c.self.inside.front.items in
    record {
      legal = c.self.invariant.legal;
      groups_are = (c.work_out.ensures.is c.self.inside.owner front (made (goal.at.invariant_of-self-in_err-work_out c).In-Some).are (omega (arith, c.len-count.ensures, length-map c.self.inside.front.items arc_value))).0;
    }

pub invariant_of-self-2 : goal.invariant_of-self-2
invariant_of-self-2 c =
    let front = map arc_value c.self.inside.front.items in
    record {
      legal = c.self.invariant.legal;
      groups_are = (c.work_out.ensures.is c.self.inside.owner front (made (goal.at.invariant_of-self-2 c).In-Some).are (omega (arith, c.len-count.ensures, length-map c.self.inside.front.items arc_value))).0;
    }

pub returns-in_err-work_out-clause-wants : goal.returns-in_err-work_out-clause-wants
returns-in_err-work_out-clause-wants c = λ memory. subst (λ (s : Shard). HasInc s.front) c.self.view_is
    (c.in_err-work_out.ensures.wants c.self.inside.owner (map arc_value c.self.inside.front.items) (made (goal.at.returns-in_err-work_out-clause-wants c).In-Some).are)

pub returns-in_err-work_out-clause-wants_there : goal.returns-in_err-work_out-clause-wants_there
returns-in_err-work_out-clause-wants_there c = λ memory marks. subst (λ (s : Shard). has_group (incs_of s.front) c.args.pg.now ≡ true) c.self.view_is
    (c.in_err-work_out.ensures.wants_there c.self.inside.owner (map arc_value c.self.inside.front.items) (made (goal.at.returns-in_err-work_out-clause-wants_there c).In-Some).are)

pub make_groups-requires : goal.make_groups-requires
make_groups-requires c = rw c.as_slice.ensures.value c.self.invariant

pub invariant_of-self : goal.invariant_of-self
invariant_of-self c = record { legal = c.self.invariant.legal; groups_are = rw c.in_err-make_groups.ensures.away tt }

pub returns-in_err-make_groups-clause-wants : goal.returns-in_err-make_groups-clause-wants
returns-in_err-make_groups-clause-wants c = λ memory. subst (λ (s : Shard). HasInc s.front) c.self.view_is (rw (← c.as_slice.ensures.value) c.in_err-make_groups.ensures.wants)

pub returns-in_err-make_groups-clause-wants_there : goal.returns-in_err-make_groups-clause-wants_there
returns-in_err-make_groups-clause-wants_there c = λ memory there. absurd (true≢false (
    sym there ∙ (ap (λ (s : Shard). is_some s.marks) (sym c.self.view_is) ∙ ap (λ (o : Option Groups). is_some (option_map marks_of o)) c.in_err-make_groups.ensures.wants_away)))

pub returns-in_err-make_groups-clause-wants_marked : goal.returns-in_err-make_groups-clause-wants_marked
returns-in_err-make_groups-clause-wants_marked c = λ memory there. absurd (true≢false (
    sym there ∙ (ap (λ (s : Shard). is_some s.marks) (sym c.self.view_is) ∙ ap (λ (o : Option Groups). is_some (option_map marks_of o)) c.in_err-make_groups.ensures.wants_away)))

pub returns-in_err-make_groups-clause-same : goal.returns-in_err-make_groups-clause-same
returns-in_err-make_groups-clause-same c = still-read _ _ _ _ _ _ _ _ c.self.view_is

pub work_out-requires : goal.work_out-requires
work_out-requires c = (made (goal.at.work_out-requires c).In-Some).are.groups_are.places_are

pub returns-in_err-work_out-clause-wants_marked : goal.returns-in_err-work_out-clause-wants_marked
returns-in_err-work_out-clause-wants_marked c = λ memory there.
    let were : AreMarked c.args.self.now (marks_of c.in-Some.groups) = rw (← c.self.view_is) (made (goal.at.returns-in_err-work_out-clause-wants_marked c).In-Some).marks in
    sym (were.each c.args.pg.now) ∙ c.in_err-work_out.ensures.wants_marked

pub returns-in_err-work_out-clause-same : goal.returns-in_err-work_out-clause-same
returns-in_err-work_out-clause-same c = still-read _ _ _ _ _ _ _ _ c.self.view_is

pub returns-clause-same : goal.returns-clause-same
returns-clause-same c = still-read _ _ _ _ _ _ _ _ c.self.view_is

pub returns-clause-marks : goal.returns-clause-marks
returns-clause-marks c = λ differs. record {
  marked = marks_of c.in-Some.groups;
  were = rw (← c.self.view_is) (made (goal.at.returns-clause-marks c).In-Some).marks;
  left = ap Some c.in_ok-work_out.ensures.marks;
}

pub returns-clause-worked : goal.returns-clause-worked
returns-clause-worked c = λ differs.
    let front = map arc_value c.self.inside.front.items in
    let long : length front ≡ c.len-count.result = omega (arith, c.len-count.ensures, length-map c.self.inside.front.items arc_value) in
    works-out c.args.self.now _ c.len-count.result c.in-Some.groups c.work_out.new.self
    (rw (← c.self.view_is) (made (goal.at.returns-clause-worked c).In-Some).marks) (rw (← c.self.view_is) (made (goal.at.returns-clause-worked c).In-Some).worked)
    (c.work_out.ensures.is c.self.inside.owner front (made (goal.at.returns-clause-worked c).In-Some).are long).1
    (sym long ∙ ap (λ (s : Shard). length s.front) c.self.view_is) refl refl

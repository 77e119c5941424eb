use Rattle.pgp_shard.proofs.Common.{◌≡◌, ◌<◌, List, Some, map, min, length, refl, ap, sym, ◌∙◌, arith, subst, arc_value, length-map, on_ok_weaker, on_err_weaker, some-weaker, PgId, marks_of, AreMarked, HasInc, Shard}
use Rattle.pgp_shard.proofs.ShardLemmas.{still-read, works-out}
use Rattle.pgp_log.proofs.SharedLemmas.{on_err}
use Rattle.pgp_shard.specs.kept.Groups.{AreMadeBeside}
use Rattle.pgp_shard.proofs.KeptBesideLemmas.{made-there}
use Rattle.pgp_shard.proofs.shard.ShardState.renew.Goals as goal
use Rattle.pgp_shard.proofs.shard.ShardState.renew.Goals.{In-Some}

made : (c : In-Some) → AreMadeBeside c.self.inside.owner (map arc_value c.self.inside.front.items) c.self.inside.groups c.in-Some.groups
made c =
    made-there c.self.inside.owner (map arc_value c.as_slice.result.now) (map arc_value c.self.inside.front.items) c.self.inside.groups c.make_groups.new.kept c.in-Some.groups
    (ap (map arc_value) c.as_slice.ensures.value) c.in-Some.is c.in_ok-make_groups.ensures.made

pub invariant_of-self-2 : goal.invariant_of-self-2
invariant_of-self-2 c =
    let front = map arc_value c.self.inside.front.items in
    record {
      legal = c.self.invariant.legal;
      groups_are = (c.renew.ensures.is c.self.inside.owner front (made (goal.at.invariant_of-self-2 c).In-Some).are (omega (arith, c.len-count.ensures, length-map c.self.inside.front.items arc_value))).0;
    }

pub returns-clause-wants : goal.returns-clause-wants
returns-clause-wants c =
    on_err_weaker c.renew.result (λ given. subst (λ (s : Shard). HasInc s.front) c.self.view_is
    (given c.self.inside.owner (map arc_value c.self.inside.front.items) (made (goal.at.returns-clause-wants c).In-Some).are)) c.renew.ensures.wants

pub make_groups-requires : goal.make_groups-requires
make_groups-requires c = rw c.as_slice.ensures.value c.self.invariant

pub invariant_of-self : goal.invariant_of-self
invariant_of-self c = record { legal = c.self.invariant.legal; groups_are = rw c.in_err-make_groups.ensures.away tt }

pub renew-requires : goal.renew-requires
renew-requires c = (made (goal.at.renew-requires c).In-Some).are.groups_are.places_are

pub returns-in_err-make_groups-clause-same : goal.returns-in_err-make_groups-clause-same
returns-in_err-make_groups-clause-same c = still-read _ _ _ _ _ _ _ _ c.self.view_is

pub returns-in_err-make_groups-clause-wants : goal.returns-in_err-make_groups-clause-wants
returns-in_err-make_groups-clause-wants c =
    on_err c.from_residual.result _ (subst (λ (s : Shard). HasInc s.front) c.self.view_is (rw (← c.as_slice.ensures.value) c.in_err-make_groups.ensures.wants))

pub returns-in_err-make_groups-clause-wants_marked : goal.returns-in_err-make_groups-clause-wants_marked
returns-in_err-make_groups-clause-wants_marked c = on_err c.from_residual.result _ (rw (← c.self.view_is, c.in_err-make_groups.ensures.wants_away) tt)

pub returns-clause-same : goal.returns-clause-same
returns-clause-same c = still-read _ _ _ _ _ _ _ _ c.self.view_is

pub returns-clause-marks : goal.returns-clause-marks
returns-clause-marks c =
    on_ok_weaker c.renew.result (λ left. record {
      marked = marks_of c.in-Some.groups;
      were = rw (← c.self.view_is) (made (goal.at.returns-clause-marks c).In-Some).marks;
      left = ap Some left;
    }) c.renew.ensures.marks

pub returns-clause-left : goal.returns-clause-left
returns-clause-left c = c.renew.ensures.left

pub returns-clause-wants_marked : goal.returns-clause-wants_marked
returns-clause-wants_marked c =
    let were : AreMarked c.args.self.now (marks_of c.in-Some.groups) = rw (← c.self.view_is) (made (goal.at.returns-clause-wants_marked c).In-Some).marks in
    on_err_weaker c.renew.result
    (λ some. some-weaker c.args.self.now.marks _ _ (λ marks is. subst (λ (l : List PgId). 0 < min c.args.max (length l)) is some) were.in_order) c.renew.ensures.wants_marked

pub returns-clause-worked : goal.returns-clause-worked
returns-clause-worked c =
    let front = map arc_value c.self.inside.front.items in
    let long : length front ≡ c.len-count.result = omega (arith, c.len-count.ensures, length-map c.self.inside.front.items arc_value) in
    let renews = (c.renew.ensures.is c.self.inside.owner front (made (goal.at.returns-clause-worked c).In-Some).are long).1 in
    on_ok_weaker c.renew.result (λ left.
    works-out c.args.self.now _ c.len-count.result c.in-Some.groups c.renew.new.self
    (rw (← c.self.view_is) (made (goal.at.returns-clause-worked c).In-Some).marks) (rw (← c.self.view_is) (made (goal.at.returns-clause-worked c).In-Some).worked)
    renews (sym long ∙ ap (λ (s : Shard). length s.front) c.self.view_is) refl refl) c.renew.ensures.marks

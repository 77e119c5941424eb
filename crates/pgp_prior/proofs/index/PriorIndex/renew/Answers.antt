use Rattle.std.proofs.Common.{◌≡◌, ◌+◌, [], None, nat_eq, drop, get_or, unwrap_or, map, rules, refl, sym, ap, ◌∙◌}
use Rattle.std.specs.HashMap as hash
use Rattle.std.specs.Vec.{with_items}
use Rattle.std.proofs.lemmas.List.{drop_more, drop_all}
use Rattle.std.proofs.lemmas.Option.{slice_get-get_or}
use Rattle.std.proofs.Math.Seq.{map-set_same}
use Rattle.pgp_lists.proofs.Members.{contains-map}
use Rattle.pgp_prior.specs.kept.JudgedInterval.{past_of}
use Rattle.pgp_prior.specs.kept.Places.{places_of}
use Rattle.pgp_prior.proofs.BasisLemmas.{way-start, change-here, renewed}
use Rattle.pgp_prior.proofs.KeptLemmas.{change-again}
use Rattle.pgp_prior.proofs.WayLemmas.{written, at-contains, way-renewed, way-past, way-done}
use Rattle.pgp_prior.proofs.index.PriorIndex.renew.Goals as goal
use Rattle.pgp_prior.proofs.index.PriorIndex.renew.Goals.{then-place-past, else-place-past}

pub loop-place-preserved : goal.loop-place-preserved
loop-place-preserved g c =
    let index = c.args.self.now in
    let enough = g.R.Recoverable.enough index.code in
    let by_place = g.R.Recoverable.by_place index.code in
    let told = g.S.StatusOf.status_of c.args.statuses.now in
    let places = c.as_slice-place-items.result.now in
    let i = c.loop-place.place-index in
    let q = get_or places i 0 in
    let rest = drop (i + 1) places in
    let past = c.loop-place.past in
    let same = c.loop-place.invariant.0 in
    let next = drop_more places i 0 c.loop-place-test.true in
    elim c.if-place-past.branch [
      | then-place-past w ↦
          let was = get_or past q w.index-past-place.result in
          let there = slice_get-get_or past q w.index-past-place.result w.if-place-past.true in
          let now = w.renew.new.self in (
            ap (map past_of) w.past-is ∙ map-set_same past_of past q now w.index-past-place.result w.renew.ensures.past ∙ same,
            λ old new is way.
                let change = is was.past (rw (← same) (contains-map past_of past was (at-contains past q was there))) in
                rw w.past-is
                (way-renewed enough by_place index.les old new q rest past was now there
                (λ before. w.renew.ensures.kept old new before change)
                (λ done. w.renew.ensures.kept new new done (change-again by_place c.args.change c.args.osd told old new was.past change))
                (rw next at (c.loop-place.invariant.1 old new is way))),
          )
      | else-place-past w ↦ (
        ap (map past_of) w.past-is ∙ same,
        λ old new is way. rw w.past-is (way-past enough by_place index.les old new q rest past w.if-place-past.false (rw next at (c.loop-place.invariant.1 old new is way))),
      )
    ]

pub returns : goal.returns
returns g c = λ b status is change.
    let enough = g.R.Recoverable.enough in
    let by_place = g.R.Recoverable.by_place in
    let told = g.S.StatusOf.status_of c.args.statuses.now in
    let index = c.args.self.now in
    let kind = c.args.change in
    let osd = c.args.osd in
    let value = c.as_mut_slice-past.ensures.value in
    let past = c.loop-place.past in
    let same : map past_of past ≡ map past_of index.past.items = c.loop-place.invariant.0 ∙ ap (map past_of) value in
    let items = written index.past past same in
    let places : places_of index.places osd ≡ c.as_slice-place-items.result.now = ap (λ found. unwrap_or found []) (sym c.in-Some.ensures.value) ∙ sym c.as_slice-place-items.ensures in
    let way = way-start enough by_place b index is (g.met.R.Recoverable.monotone b.code) kind osd told status change in
    let none = drop_all c.loop-place.place-index c.as_slice-place-items.result.now c.loop-place-test.false in
    let done = way-done (enough index.code) (by_place index.code) index.les b.status status past
    (rw none at (c.loop-place.invariant.1 b.status status (rw value (change-here enough by_place b index is kind osd told status change)) (rw (value, ← places) way))) in
    renewed enough by_place b index is status (with_items index.past past) (ap (map past_of) items ∙ same) (rw items done)

pub returns-in_default : goal.returns-in_default
returns-in_default g c = λ b status is change.
    let enough = g.R.Recoverable.enough in
    let by_place = g.R.Recoverable.by_place in
    let told = g.S.StatusOf.status_of c.args.statuses.now in
    let index = c.args.self.now in
    let none : hash.get nat_eq index.places c.args.osd ≡ None = search rules in
    let way = way-start enough by_place b index is (g.met.R.Recoverable.monotone b.code) c.args.change c.args.osd told status change in
    renewed enough by_place b index is status index.past refl
    (way-done (enough index.code) (by_place index.code) index.les b.status status index.past.items (rw none at way))

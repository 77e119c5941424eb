use Rattle.std.proofs.Common.{◌≡◌, [], ◌∷◌, ◌++◌, List, not, map, take, ap, sym, ◌∙◌, vec_items}
use Rattle.std.specs.List.{filter}
use Rattle.std.proofs.lemmas.List.{map_push, take_all}
use Rattle.pgp_code.specs.AnyCode.{enough_of}
use Rattle.pgp_ids.specs.declared.past.Past.{Past}
use Rattle.pgp_group.proofs.Lists.{filter-fails, filter-passes}
use Rattle.pgp_group.specs.Entries.{incs_of}
use Rattle.pgp_map.specs.Held.{held_lost_at}
use Rattle.pgp_sets.specs.Status.{held_status}
use Rattle.pgp_reasons.specs.Fates.{interval_now}
use Rattle.pgp_reasons.specs.Price.{concerns, price_by}
use Rattle.pgp_reasons.specs.Ways.{status_after}
use Rattle.pgp_reasons.specs.declared.price.Price.{Price}
use Rattle.pgp_reasons.proofs.ReasonsLemmas.{asked-is, viewed-asked, unviewed}
use Rattle.pgp_reasons.proofs.price.price_of.Goals as goal
use Rattle.pgp_reasons.proofs.price.price_of.Goals.{then-concerns+in_ok-of+in_ok-push, else-concerns}

pub loop-interval-preserved : goal.loop-interval-preserved
loop-interval-preserved c =
    let code = c.of_pool-code.result in
    let before = held_status c.args.map.now in
    let after = status_after c.args.starts.now c.args.losses.now before in
    let test = concerns code before after c.args.view.now.les in
    let told = interval_now code after (held_lost_at c.args.map.now) in
    let past = c.as_slice-past.result.now in
    let i = c.loop-interval.interval-index in
    let interval = c.interval-item.result in
    elim c.if-concerns.branch [
      | then-concerns+in_ok-of+in_ok-push w ↦
          ap vec_items w.intervals-is ∙ w.in_ok-push.ensures.items
          ∙ (λ j. c.loop-interval.invariant j ++ w.in_ok-of.ensures j ∷ [])
          ∙ sym (ap (map told) (filter-passes test past i interval c.loop-interval-test.true c.interval-item.is (sym c.concerns.ensures ∙ w.if-concerns.true)) ∙ map_push told (filter test (take i past)) interval)
      | else-concerns w ↦
          ap vec_items w.intervals-is ∙ c.loop-interval.invariant
          ∙ sym (ap (map told) (filter-fails test past i interval c.loop-interval-test.true c.interval-item.is (sym c.concerns.ensures ∙ w.if-concerns.false)))
    ]

pub returns : goal.returns
returns c = λ log g viewed.
    let code = c.of_pool-code.result in
    let before = held_status c.args.map.now in
    let after = status_after c.args.starts.now c.args.losses.now before in
    let lost = held_lost_at c.args.map.now in
    let past = c.as_slice-past.result.now in
    let cost : Price = record { intervals = c.from_vec.result; unreadable = not c.enough.result } in
    let all = take_all c.loop-interval.interval-index past c.loop-interval-test.false in
    let is : cost ≡ price_by code before after lost c.args.view.now.les past = λ i. record {
      intervals = (c.from_vec.ensures ∙ c.loop-interval.invariant
          ∙ ap (λ (l : List Past). map (interval_now code after lost) (filter (concerns code before after c.args.view.now.les) l)) all) i;
      unreadable = not ((c.enough.ensures ∙ ap (enough_of code) c.slots_left.ensures) i);
    } in
    let asked = viewed-asked log c.args.map.now c.args.pg c.args.view.now g c.in-Some.pool (sym (c.in-Some.ensures.value (incs_of log) viewed.map_is)) viewed in
    is ∙ rw c.as_slice-past.ensures
    (asked-is (λ code status lost view. price_by code status (status_after c.args.starts.now c.args.losses.now status) lost view.les view.intervals)
    g code c.args.map.now c.args.view.now (asked.code_is ∙ sym c.of_pool-code.ensures) asked.map_is asked.view_is)

pub returns-in_default : goal.returns-in_default
returns-in_default c = λ log g is. absurd (unviewed log c.args.map.now c.args.pg c.args.view.now g (sym (c.in_default.ensures.value (incs_of log) is.map_is)) is)

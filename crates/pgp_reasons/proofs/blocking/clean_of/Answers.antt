use Rattle.std.proofs.Common.{Option, Some, map, option_map, ap, sym, ◌∙◌, cond}
use Rattle.std.specs.Option.{option_copied}
use Rattle.std.proofs.lemmas.List.{take_all}
use Rattle.pgp_ids.specs.declared.past.Past.{Past}
use Rattle.pgp_lists.specs.Last.{last_where}
use Rattle.pgp_lists.proofs.Last.{found_more}
use Rattle.pgp_map.specs.Held.{held_lost_at}
use Rattle.pgp_sets.specs.Status.{held_status}
use Rattle.pgp_reasons.specs.Blocking.{was_clean_in}
use Rattle.pgp_reasons.specs.Fates.{interval_now}
use Rattle.pgp_reasons.proofs.blocking.clean_of.Goals as goal
use Rattle.pgp_reasons.proofs.blocking.clean_of.Goals.{then-was_clean_in, else-was_clean_in}

pub loop-interval-preserved : goal.loop-interval-preserved
loop-interval-preserved c =
    let interval = c.interval-item.result in
    let test = was_clean_in (map (λ info. info.last_epoch_clean) c.args.infos.now) c.args.les in
    let now : Option Past = option_copied c.loop-interval.last in
    found_more test c.args.past.now c.loop-interval.interval-index interval now (option_copied c.if-was_clean_in.last) c.loop-interval-test.true c.interval-item.is c.loop-interval.invariant
    (elim c.if-was_clean_in.branch [
      | then-was_clean_in w ↦ ap option_copied w.last-is ∙ sym (ap (λ b. cond b (Some interval) now) (sym c.was_clean_in.ensures ∙ w.if-was_clean_in.true))
      | else-was_clean_in w ↦ ap option_copied w.last-is ∙ sym (ap (λ b. cond b (Some interval) now) (sym c.was_clean_in.ensures ∙ w.if-was_clean_in.false))
    ])

pub returns-in_ok-of-in-Some : goal.returns-in_ok-of-in-Some
returns-in_ok-of-in-Some c =
    let test = was_clean_in (map (λ info. info.last_epoch_clean) c.args.infos.now) c.args.les in
    let told = interval_now c.args.code.now (held_status c.args.map.now) (held_lost_at c.args.map.now) in
    let all = take_all c.loop-interval.interval-index c.args.past.now c.loop-interval-test.false in
    ap Some c.in_ok-of-in-Some.ensures ∙ ap (option_map told) (sym (ap option_copied c.in-Some.is) ∙ c.loop-interval.invariant ∙ ap (last_where test) all)

pub returns-in-None : goal.returns-in-None
returns-in-None c =
    let test = was_clean_in (map (λ info. info.last_epoch_clean) c.args.infos.now) c.args.les in
    let told = interval_now c.args.code.now (held_status c.args.map.now) (held_lost_at c.args.map.now) in
    let all = take_all c.loop-interval.interval-index c.args.past.now c.loop-interval-test.false in
    ap (option_map told) (sym (ap option_copied c.in-None.is) ∙ c.loop-interval.invariant ∙ ap (last_where test) all)

use Rattle.std.proofs.Common.{◌≡◌, ◌≤◌, length, sym, ◌∙◌, arith, rules, tests, length-append}
use Rattle.pgp_lines.specs.Trace.{epoch_state_in}
use Rattle.pgp_lines.proofs.Walks.{list_after-start, list_after-next, list_after-end, list_after-few, list_after-many, list_after-bad}
use Rattle.pgp_lines.proofs.command.trace.read_epochs.Goals as goal

pub loop-item-init : goal.loop-item-init
loop-item-init c =
    let none = c.new-states.ensures in
    (rw none (list_after-start (epoch_state_in c.args.nulls) 1 4096 _ _ c.in-Some.ensures), rw none (omega arith))

pub loop-item-preserved : goal.loop-item-preserved
loop-item-preserved c =
    let more = c.in_ok-push-in-Some-read_epoch_state.ensures.ok in
    (rw more (c.loop-item.invariant.0 ∙ list_after-next (epoch_state_in c.args.nulls) 1 4096 _ _ _ _ _ c.in-Some-next.ensures.more (sym c.in-Some-read_epoch_state.ensures)), rw (more, length-append) (omega arith))

pub returns-then-len-ge-MAX_EPOCHS : goal.returns-then-len-ge-MAX_EPOCHS
returns-then-len-ge-MAX_EPOCHS c =
    sym (c.loop-item.invariant.0 ∙ list_after-many (epoch_state_in c.args.nulls) 1 4096 _ _ _ _ c.in-Some-next.ensures.more (omega arith))

pub returns-in-None : goal.returns-in-None
returns-in-None c =
    sym (c.loop-item.invariant.0 ∙ list_after-bad (epoch_state_in c.args.nulls) 1 4096 _ _ _ _ c.in-Some-next.ensures.more (sym c.in-None.ensures))

pub returns-then-is_empty : goal.returns-then-is_empty
returns-then-is_empty c =
    let none : length c.loop-item.states ≡ 0 = search (rules, tests) in
    sym (c.loop-item.invariant.0 ∙ list_after-few (epoch_state_in c.args.nulls) 1 4096 _ _ c.in_default-next.ensures.end (omega arith))

pub returns : goal.returns
returns c =
    let some : 1 ≤ length c.loop-item.states = search (rules, tests) in
    sym (c.loop-item.invariant.0 ∙ list_after-end (epoch_state_in c.args.nulls) 1 4096 _ _ c.in_default-next.ensures.end some c.loop-item.invariant.1)

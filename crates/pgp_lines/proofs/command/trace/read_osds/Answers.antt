use Rattle.std.proofs.Common.{◌≡◌, ◌<◌, length, sym, ◌∙◌, arith, rules, tests, length-append}
use Rattle.pgp_lines.specs.Ids.{place_in}
use Rattle.pgp_lines.proofs.Walks.{list_after-start, list_after-next, list_after-end, list_after-many, list_after-bad}
use Rattle.pgp_lines.proofs.command.trace.read_osds.Goals as goal

pub loop-place-init : goal.loop-place-init
loop-place-init c =
    let none = c.new-osds.ensures in
    (rw none (list_after-start (place_in c.args.nulls) 0 16 _ _ c.in_ok-places.ensures), rw none (omega arith))

pub loop-place-preserved : goal.loop-place-preserved
loop-place-preserved c =
    let now = c.loop-place.invariant in
    let below : length c.loop-place.osds < 16 = grind (arith, tests) in
    let more = c.push.ensures in
    (rw more (now.0 ∙ list_after-next (place_in c.args.nulls) 0 16 _ _ _ _ _ c.in-Some.ensures.more (sym c.in_ok-read_place.ensures)), rw (more, length-append) (omega (arith, below)))

pub returns-then-is_full : goal.returns-then-is_full
returns-then-is_full c =
    let full : length c.loop-place.osds ≡ 16 = search (rules, tests) in
    sym (c.loop-place.invariant.0 ∙ list_after-many (place_in c.args.nulls) 0 16 _ _ _ _ c.in-Some.ensures.more (omega arith))

pub returns-in_err-read_place : goal.returns-in_err-read_place
returns-in_err-read_place c =
    rw c.from_residual-in_err-read_place.ensures
    (sym (c.loop-place.invariant.0 ∙ list_after-bad (place_in c.args.nulls) 0 16 _ _ _ _ c.in-Some.ensures.more (sym c.in_err-read_place.ensures)))

pub returns : goal.returns
returns c =
    sym (c.loop-place.invariant.0 ∙ list_after-end (place_in c.args.nulls) 0 16 _ _ c.in_default.ensures.end (omega arith) c.loop-place.invariant.1)

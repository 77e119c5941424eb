use Rattle.std.proofs.Common.{◌<◌, ◌+◌, ◌++◌, List, ℕ, [], length, map, drop, ap, ◌∙◌, arith}
use Rattle.pgp_compact.specs.Needed.{chosen}
use Rattle.pgp_whole.specs.Remaining.{text_of_lines}
use Rattle.pgp_whole.proofs.Lines.{text-next}
use Rattle.pgp_whole.proofs.compact.text_of.Goals as goal

pub loop-place-preserved : goal.loop-place-preserved
loop-place-preserved c =
    let lines : List (List ℕ) = map (λ line. line.now) c.args.lines.now in
    let within : c.loop-place.place < length c.args.choices.now = omega (arith, c.requires, c.loop-place-test.true) in
    ap (λ (l : List ℕ). l ++ text_of_lines (chosen (drop (c.loop-place.place + 1) c.args.choices.now) (drop (c.loop-place.place + 1) lines))) c.in_ok-put_line.ensures
    ∙ text-next (λ line. line.now) c.loop-place.text.items (text_of_lines (chosen c.args.choices.now lines)) c.args.choices.now c.args.lines.now c.loop-place.place
    (record { ref_ptr = (0, 0); now = [] }) within c.loop-place-test.true c.loop-place.invariant

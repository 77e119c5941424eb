use Rattle.std.proofs.Common.{◌≡◌, ◌++◌, ◌∙◌, [], ℕ, List, map, sym}
use Rattle.std.proofs.lemmas.List.{map-id}
use Rattle.pgp_map.specs.NumberSet.{has}
use Rattle.pgp_map.proofs.RepeatLemmas.{IsSetOf, empty-set, met-is, set-of_more, repeat-before}
use Rattle.pgp_map.proofs.repeats.changes_twice.Goals as goal

named : (xs ys : List ℕ) → xs ≡ ys → map (λ osd. osd) xs ≡ ys
named xs ys is = map-id xs ∙ is

pub returns-then-meets : goal.returns-then-meets
returns-then-meets c =
    let inc = c.args.inc.now in
    let met = met-is (has c.empty-seen.result) [] inc.up _ c.meets.result (empty-set _ c.empty-seen.ensures) (named _ inc.up c.as_slice.ensures) c.meets.ensures.value in
    sym (repeat-before (inc.up ++ inc.down) inc.gone (repeat-before inc.up inc.down (sym met ∙ c.if-meets.true)))

pub returns-then-meets-2 : goal.returns-then-meets-2
returns-then-meets-2 c =
    let inc = c.args.inc.now in
    let first : IsSetOf (has c.meets.new.seen) inc.up =
    set-of_more (has c.empty-seen.result) _ [] inc.up _ c.meets.result (empty-set _ c.empty-seen.ensures) (named _ inc.up c.as_slice.ensures) c.meets.ensures.value c.if-meets.false c.meets.ensures.put in
    let met = met-is (has c.meets.new.seen) inc.up inc.down _ c.meets-2.result first (named _ inc.down c.as_slice-2.ensures) c.meets-2.ensures.value in
    sym (repeat-before (inc.up ++ inc.down) inc.gone (sym met ∙ c.if-meets-2.true))

pub returns : goal.returns
returns c =
    let inc = c.args.inc.now in
    let first : IsSetOf (has c.meets.new.seen) inc.up =
    set-of_more (has c.empty-seen.result) _ [] inc.up _ c.meets.result (empty-set _ c.empty-seen.ensures) (named _ inc.up c.as_slice.ensures) c.meets.ensures.value c.if-meets.false c.meets.ensures.put in
    let both : IsSetOf (has c.meets-2.new.seen) (inc.up ++ inc.down) =
    set-of_more (has c.meets.new.seen) _ inc.up inc.down _ c.meets-2.result first (named _ inc.down c.as_slice-2.ensures) c.meets-2.ensures.value c.if-meets-2.false c.meets-2.ensures.put in
    met-is (has c.meets-2.new.seen) (inc.up ++ inc.down) inc.gone _ c.meets-3.result both (named _ inc.gone c.as_slice-3.ensures) c.meets-3.ensures.value

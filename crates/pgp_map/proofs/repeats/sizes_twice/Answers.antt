use Rattle.std.proofs.Common.{◌∙◌, [], map, ap, sym}
use Rattle.pgp_map.specs.NumberSet.{has}
use Rattle.pgp_map.proofs.RepeatLemmas.{IsSetOf, empty-set, met-is, set-of_more, repeat-before}
use Rattle.pgp_map.proofs.repeats.sizes_twice.Goals as goal

pub returns-then-meets : goal.returns-then-meets
returns-then-meets c =
    let inc = c.args.inc.now in
    let met = met-is (has c.empty-seen.result) [] (map (λ pool. pool.id) inc.pools) _ c.meets.result (empty-set _ c.empty-seen.ensures) (ap (map (λ pool. pool.id)) c.as_slice.ensures) c.meets.ensures.value in
    sym (repeat-before (map (λ pool. pool.id) inc.pools) (map (λ given. given.pool) inc.sizes) (sym met ∙ c.if-meets.true))

pub returns : goal.returns
returns c =
    let inc = c.args.inc.now in
    let first : IsSetOf (has c.meets.new.seen) (map (λ pool. pool.id) inc.pools) =
    set-of_more (has c.empty-seen.result) _ [] (map (λ pool. pool.id) inc.pools) _ c.meets.result (empty-set _ c.empty-seen.ensures) (ap (map (λ pool. pool.id)) c.as_slice.ensures)
    c.meets.ensures.value c.if-meets.false c.meets.ensures.put in
    met-is (has c.meets.new.seen) (map (λ pool. pool.id) inc.pools) (map (λ given. given.pool) inc.sizes) _ c.meets-2.result first (ap (map (λ given. given.pool)) c.as_slice-2.ensures) c.meets-2.ensures.value

use Rattle.std.proofs.Common.{◌≡◌, ℕ, ◌++◌, map, ap, sym, ◌∙◌, append_assoc, arith}
use Rattle.std.proofs.lemmas.Grind.{common_steps}
use Rattle.std.proofs.lemmas.List.FromFn.{map-range_with_len_more}
use Rattle.std.specs.List.{range_with_len}
use Rattle.std.specs.Option.{option_map_or}
use Rattle.pgp_ids.specs.declared.pool.PoolSpec.{PoolSpec}
use Rattle.pgp_ids.specs.declared.pg_id.PgId.{PgId}
use Rattle.pgp_map.specs.Held.{held_pool}
use Rattle.pgp_map.proofs.map.OsdMap.put_groups.Goals as goal

pub loop-pg-preserved : goal.loop-pg-preserved
loop-pg-preserved c =
    let group : ℕ → PgId = λ pg. record { pool = c.args.id; pg = pg } in
    grind (arith, common_steps, map-range_with_len_more group 0 c.loop-pg.pg c.loop-pg.pg (omega arith), append_assoc)

pub returns : goal.returns
returns c =
    let group : ℕ → PgId = λ pg. record { pool = c.args.id; pg = pg } in
    let all : c.loop-pg.pg ≡ c.in-Some.pool.pg_num = omega (arith, c.loop-pg-test.false, c.loop-pg.auto.pg-end) in
    let held : option_map_or (λ (made : PoolSpec). made.pg_num) (held_pool c.args.self.now c.args.id) 0 ≡ c.in-Some.pool.pg_num =
    ap (λ p. option_map_or (λ (made : PoolSpec). made.pg_num) p 0) (sym c.pool.ensures.held ∙ c.in-Some.is) in
    c.loop-pg.invariant ∙ (λ i. c.args.groups.now.items ++ map group (range_with_len 0 ((all ∙ sym held) i)))

use Rattle.pgp_shard.proofs.Common.{◌≡◌, ◌∙◌, ◌||◌, true, sym, ap, arith, or-true, eq-eqb, has, temp_key, PgId}
use Rattle.pgp_ids.specs.declared.incremental.TempList.{TempList}
use Rattle.pgp_map.specs.Pools.{is_same_group}
use Rattle.pgp_tables.proofs.Common.{same_group}
use Rattle.pgp_shard.proofs.OsdFilterLemmas.{covers-all, covers-more}
use Rattle.pgp_shard.proofs.row.keys_of.Goals as goal

pub loop-given-preserved : goal.loop-given-preserved
loop-given-preserved c =
    let old = c.loop-given.keys in
    let item : TempList = c.given-item.result in
    record {
      there = covers-more (λ (pg : PgId) (given : TempList). is_same_group given.pg pg) c.args.temps.now c.loop-given.given-index item (λ pg. has old (temp_key pg) ≡ true) (λ pg. has c.insert.new.self (temp_key pg) ≡ true) c.loop-given-test.true
          (λ pg was. c.insert.ensures.now (temp_key pg) ∙ rw was (or-true _))
          (λ pg is.
          let same : temp_key pg ≡ c.temp_key.result = ap temp_key (sym (same_group _ _ is) ∙ ap (λ (given : TempList). given.pg) (sym c.given-item.is)) ∙ sym c.temp_key.ensures in
          c.insert.ensures.now (temp_key pg) ∙ ap (λ b. b || has old (temp_key pg)) (eq-eqb _ _ same))
          c.loop-given.invariant.there;
    }

pub returns : goal.returns
returns c = covers-all (λ (pg : PgId) (given : TempList). is_same_group given.pg pg) c.args.temps.now c.loop-given.given-index (λ pg. has c.loop-given.keys (temp_key pg) ≡ true) (omega (arith, c.loop-given-test.false)) c.loop-given.invariant.there

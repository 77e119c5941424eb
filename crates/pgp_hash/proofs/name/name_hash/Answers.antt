use Rattle.std.proofs.Common.{◌≡◌, ◌<◌, ◌/◌, length, refl, arith}
use Rattle.pgp_hash.specs.NameHash.{words_after}
use Rattle.pgp_hash.proofs.Blocks.{words_after_next, name_hash_from_rest}
use Rattle.pgp_hash.proofs.name.name_hash.Goals as goal

pub loop-block-init : goal.loop-block-init
unfolding words_after
loop-block-init c = refl

pub loop-block-preserved : goal.loop-block-preserved
loop-block-preserved c =
    let below : c.loop-block.block-index < length c.args.name.now / 12 =
    omega (arith, c.as_chunks.ensures.front_len, c.loop-block-test.true) in
    words_after_next c.args.name.now _ c.loop-block.block-index _ _ _ _ c.as_chunks.ensures.front below
    c.loop-block.invariant c.whole_block.ensures c.triple_sum.ensures c.mix-words.ensures

pub returns : goal.returns
returns c =
    let all : c.loop-block.block-index ≡ length c.args.name.now / 12 =
    omega (arith, c.as_chunks.ensures.front_len, c.loop-block-test.false, c.loop-block.auto.block-index-end) in
    name_hash_from_rest c.args.name.now c.as_chunks.result.1.now c.loop-block.block-index _ _ _ _ all
    c.as_chunks.ensures.back c.loop-block.invariant c.last_block.ensures c.triple_sum-2.ensures c.mix.ensures

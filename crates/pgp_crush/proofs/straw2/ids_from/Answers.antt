use Rattle.std.proofs.Common.{◌≡◌, ◌+◌, ◌<◌, ◌∙◌, refl, length, FitsSigned, arith, rules, pos, slice_index_or}
use Rattle.std.proofs.Math.ListN.{length-set}
use Rattle.std.specs.Int.{w32}
use Rattle.std.proofs.lemmas.Int.{to_z-of_z}
use Rattle.pgp_crush.specs.Choice.{word_of}
use Rattle.pgp_crush.proofs.ChoiceLemmas.{filled}
use Rattle.pgp_crush.proofs.straw2.ids_from.Goals as goal

pub loop-k-init : goal.loop-k-init
loop-k-init c = record { sized = refl; named = λ j below. absurd (omega arith) }

pub loop-k-preserved : goal.loop-k-preserved
loop-k-preserved c =
    let fits : FitsSigned w32 (slice_index_or c.args.items.now (c.args.first + c.loop-k.k) (pos 0)) = search rules in
    let word : c.cast_unsigned.result ≡ word_of (slice_index_or c.args.items.now (c.args.first + c.loop-k.k) (pos 0)) = simp to_z-of_z at c.cast_unsigned.ensures in
    let within : c.loop-k.k < length c.loop-k.ids = omega arith in
    record {
      sized = length-set c.loop-k.ids c.loop-k.k c.cast_unsigned.result ∙ c.loop-k.invariant.sized;
      named = filled (λ j. word_of (slice_index_or c.args.items.now (c.args.first + j) (pos 0))) c.loop-k.ids c.loop-k.k c.cast_unsigned.result within word
          c.loop-k.invariant.named;
    }

pub returns : goal.returns
returns c = λ k below within. c.loop-k.invariant.named k (omega arith)

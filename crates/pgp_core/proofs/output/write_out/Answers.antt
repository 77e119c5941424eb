use Rattle.std.proofs.Common.{◌∙◌, arith}
use Rattle.std.proofs.lemmas.List.{take_rest}
use Rattle.pgp_core.proofs.OutputLemmas.{WrittenPart-more}
use Rattle.pgp_core.proofs.output.write_out.Goals as goal

pub loop-rest-preserved : goal.loop-rest-preserved
loop-rest-preserved g c = record {
  went = rw take_rest (WrittenPart-more _ _ _ _ _ c.in-Ok.count c.loop-rest.invariant.went c.in-Ok.ensures.bytes);
  kept = c.in-Ok.ensures.kept (omega (arith, c.if-count-eq0.false)) ∙ c.loop-rest.invariant.kept;
}

use Rattle.std.proofs.Common.{◌∙◌}
use Rattle.pgp_map.proofs.RepeatLemmas.{any-held}
use Rattle.pgp_map.proofs.temp_check.is_placed.Goals as goal

-- src/temp_check.rt:29:1
pub returns : goal.returns
returns c = c.contains.ensures.value ∙ any-held c.args.osd c.new-sought.result c.args.places.now c.new-sought.ensures

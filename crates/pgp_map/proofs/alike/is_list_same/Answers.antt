use Rattle.std.specs.Cmp.{unsigned_Decides}
use Rattle.std.proofs.lemmas.Slice.Eq.{slice_eq-Decides}
use Rattle.pgp_map.proofs.AlikeLemmas.{options_Decide}
use Rattle.pgp_map.proofs.alike.is_list_same.Goals as goal

pub returns : goal.returns
returns c = slice_eq-Decides (options_Decide unsigned_Decides) c.args.list.now c.args.other.now c.eq.result c.eq.ensures

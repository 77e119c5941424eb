use Rattle.std.proofs.Common.{sym, ◌∙◌, rules, tests}
use Rattle.std.proofs.lemmas.Iterator.{YieldsList-from_slice}
use Rattle.std.proofs.lemmas.Iterator.Search.{any_from_yields_List}
use Rattle.std.specs.Arc.{arc_value}
use Rattle.pgp_log.specs.Fits.{is_close}
use Rattle.pgp_lists.proofs.Lists.{any-mapped}
use Rattle.pgp_join.proofs.alike.is_closed.Goals as goal

pub returns : goal.returns
returns c =
    any_from_yields_List (λ entry. is_close (arc_value entry)) _ _ c.any.result c.any.ensures.ran (YieldsList-from_slice c.args.entries.now c.iter.ensures.rest)
    (λ x b q k. search (rules, tests))
    ∙ sym (any-mapped arc_value is_close c.args.entries.now)

use Rattle.std.proofs.Common.{◌≡◌, ◌-◌, ◌^◌, List, Option, min, ap, sym, ◌∙◌}
use Rattle.std.specs.List.{sum_by}
use Rattle.pgp_ids.specs.Parts.{parts_of}
use Rattle.pgp_ids.specs.declared.part.Part.{Part}
use Rattle.pgp_code.specs.declared.any.AnyCode.{AnyCode}
use Rattle.pgp_reasons.specs.Lacking.{lacking, lacking_of_part}
use Rattle.pgp_reasons.proofs.LackingLemmas.{lacks_none}
use Rattle.pgp_reasons.proofs.lacking.lacking.Goals as goal

pub returns-in-Grouped-clause-enough : goal.returns-in-Grouped-clause-enough
returns-in-Grouped-clause-enough c =
    let slots = c.args.slots in
    let value : c.lacking_of_parts.result ≡ lacking c.args.code.now slots =
    c.lacking_of_parts.ensures
    ∙ ap (λ (groups : List (Option Part)). min (sum_by (lacking_of_part slots) (parts_of groups)) (2 ^ 64 - 1)) c.places.ensures
    ∙ sym (ap (λ (code : AnyCode). lacking code slots) c.in-Grouped.is) in
    let both = lacks_none c.args.code.now slots in
    (λ none. both.0 (sym value ∙ none), λ enough. value ∙ both.1 enough)

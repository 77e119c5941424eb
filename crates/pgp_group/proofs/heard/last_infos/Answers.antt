use Rattle.pgp_group.proofs.Common.{List, [], ap, ◌∙◌, filter, Info, Heard, with_infos, Preference}
use Rattle.pgp_group.specs.Heard.{counts}
use Rattle.pgp_group.proofs.InfosLemmas.{with_infos-last}
use Rattle.pgp_group.proofs.heard.last_infos.Goals as goal

pub returns : goal.returns
returns c = λ g here.
    let told : List Info = filter (counts g) c.args.told.now in
    c.in_ok-hear.ensures g here
    ∙ ap (λ (h : Heard Preference). record h { infos = with_infos told h.infos }) c.new-best.ensures
    ∙ ap (λ (l : List Info). record { prefer = c.args.prefer; infos = l }) (with_infos-last told [])

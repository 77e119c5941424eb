use Rattle.pgp_group.proofs.Common.{ap, sym, ◌∙◌, option_map, is_of, CountedLog, arith}
use Rattle.pgp_group.proofs.ReportsLemmas.{found-at, found-none}
use Rattle.pgp_group.proofs.logs.Logs.log_of.Goals as goal

pub returns-in-Some : goal.returns-in-Some
returns-in-Some c =
    let logs = c.args.self.now.of_members.items in
    grind (arith, found-at (is_of c.args.member) logs c.in-Some.place c.index.result.now (sym c.place_of.ensures ∙ c.in-Some.is))

pub returns-in-None : goal.returns-in-None
returns-in-None c =
    let logs = c.args.self.now.of_members.items in
    sym (ap (option_map (λ (log : CountedLog). log.log)) (found-none (is_of c.args.member) logs (sym c.place_of.ensures ∙ c.in-None.is)))

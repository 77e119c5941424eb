use Rattle.pgp_group.proofs.Common.{refl, sym, ◌∙◌, position-Some, is_of, CountedLog, arith}
use Rattle.pgp_group.proofs.ReportsLemmas.{found-none, renewed, renewed-one}
use Rattle.pgp_group.proofs.logs.Logs.renew.Goals as goal

pub returns-in-Some-clause-entries : goal.returns-in-Some-clause-entries
returns-in-Some-clause-entries c = λ test member reported is.
    let logs = c.args.self.now.of_members.items in
    let old : CountedLog = c.index_mut.result.now in
    let within = (position-Some (is_of c.args.info.now.member) logs c.in-Some.place old (sym c.place_of.ensures ∙ c.in-Some.is)).0 in
    renewed test member logs c.in-Some.place old (record old { log = c.renew.new.self }) reported within c.index_mut.ensures.value refl refl
    (λ r was. (c.renew.ensures r was).of_reported) is

pub returns-in-Some-clause-bounds : goal.returns-in-Some-clause-bounds
returns-in-Some-clause-bounds c = λ log reported is found.
    let old : CountedLog = c.index_mut.result.now in
    renewed-one c.args.info.now.member c.args.self.now.of_members.items c.in-Some.place old (record old { log = c.renew.new.self }) log c.args.info.now reported
    (sym c.place_of.ensures ∙ c.in-Some.is) c.index_mut.ensures.value refl c.renew.ensures is found

pub returns-in_default-clause-bounds : goal.returns-in_default-clause-bounds
returns-in_default-clause-bounds c =
    grind (arith, found-none (is_of c.args.info.now.member) c.args.self.now.of_members.items (sym c.place_of.ensures ∙ c.in_default.is))

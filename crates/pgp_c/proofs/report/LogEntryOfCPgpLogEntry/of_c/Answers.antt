use Rattle.std.proofs.Common.{◌≡◌, ◌≤◌, Err, Some, ap, arith, rules, subst, sym, ◌∙◌}
use Rattle.pgp_c.specs.Each.{IsWhy}
use Rattle.pgp_c.specs.Locate.{IsName}
use Rattle.pgp_c.specs.Report.{change_of, given_log_entry, given_name}
use Rattle.pgp_c.specs.declared.status.Status.TheVariants.{BadArgument}
use Rattle.pgp_c.proofs.ReportLemmas.{given-named, unnamed}
use Rattle.pgp_c.proofs.report.LogEntryOfCPgpLogEntry.of_c.Goals as goal
use Rattle.pgp_c.proofs.report.LogEntryOfCPgpLogEntry.of_c.Goals.{in-0, in-1}

pub returns-in_err-name_of : goal.returns-in_err-name_of
returns-in_err-name_of c =
    let it = c.args.given.now in
    let why = c.in_err-name_of.field-0.0 in
    let bad = λ (arg : why ≡ BadArgument) (name : IsName (given_name it)). c.in_err-name_of.ensures.bad (ap Err arg) (subst IsName (sym c.name_bytes.ensures) name) in
    let none : IsWhy why (given_log_entry it) = unnamed it (search rules) why bad c.in_err-name_of.ensures.err in
    search rules

pub returns : goal.returns
returns c =
    let it = c.args.given.now in
    let ok = c.in_ok-name_of.ensures.ok in
    let name : IsName (given_name it) = subst IsName c.name_bytes.ensures ok.1 in
    let object : c.in_ok-name_of.field-0 ≡ given_name it = ok.0 ∙ c.name_bytes.ensures in
    let change : c.match-given.change ≡ change_of it.deletes = elim c.match-given.branch [ in-0 w ↦ search rules | in-1 w ↦ search rules ] in
    let few : it.deletes ≤ 1 = elim c.match-given.branch [ in-0 w ↦ omega arith | in-1 w ↦ omega arith ] in
    given-named it (search rules) few name
    ∙ ap Some (λ i. record { version = record { epoch = sym c.version_of.ensures.0 i; v = sym c.version_of.ensures.1 i }; change = sym change i; object = sym object i })

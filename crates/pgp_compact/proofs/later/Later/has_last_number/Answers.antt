use Rattle.pgp_compact.proofs.Common.{Bool, Entry, List, LogEntry, Report, arith, contains-any, list_any, list_any_more, nat_tests, not, replaces_number, reports_in, sym, take_all}
use Rattle.pgp_compact.proofs.later.Later.has_last_number.Goals as goal

-- the reports that come later have no entry of this number
abbrev lacks : Report → List Entry → LogEntry → Bool
lacks report later entry = not (list_any (replaces_number report entry.version.v) (reports_in report.pg later))

pub returns-then-not-replaces : goal.returns-then-not-replaces
returns-then-not-replaces c = λ log later kept.
    let found = contains-any (lacks c.args.report.now later) _ c.entry-item.result (_, c.loop-entry-test.true, sym c.entry-item.is) in
    grind (arith, nat_tests, c.replaces.ensures log later kept, found)

pub loop-entry-preserved : goal.loop-entry-preserved
loop-entry-preserved c = λ log later kept.
    let items = c.as_slice-entry-items.result.now in
    let more = list_any_more (lacks c.args.report.now later) items c.loop-entry.entry-index c.entry-item.result c.loop-entry-test.true in
    grind (arith, nat_tests, c.replaces.ensures log later kept, c.loop-entry.invariant log later kept, more)

pub returns : goal.returns
returns c = λ log later kept.
    grind (arith, c.loop-entry.invariant log later kept, take_all c.loop-entry.entry-index c.as_slice-entry-items.result.now)

use Rattle.std.proofs.Common.{◌≡◌, ◌≤◌, List, map, take, length, sym, subst, arith}
use Rattle.std.proofs.lemmas.List.{length-map, length-take-le}
use Rattle.std.specs.Arc.{arc_value}
use Rattle.pgp_ids.specs.declared.entry.Entry.{Entry}
use Rattle.pgp_log.proofs.LogLemmas.{legal-short}
use Rattle.pgp_log.proofs.SharedLemmas.{map-next}
use Rattle.pgp_core.specs.Counts.{AreFew}
use Rattle.pgp_core.proofs.CountsLemmas.{are-few, counts-next}
use Rattle.pgp_core.proofs.counts.EntryCounts.of.Goals as goal

pub with-counts-requires : goal.with-counts-requires
with-counts-requires c =
    let xs = c.args.entries.now in
    let i = c.loop-entry.entry-index in
    let front : List Entry = map arc_value (take i xs) in
    let short : length (map arc_value xs) ≤ 65536 = legal-short (map arc_value xs) c.requires in
    let all : length (map arc_value xs) ≡ length xs = length-map xs arc_value in
    let same : length front ≡ length (take i xs) = length-map (take i xs) arc_value in
    let long : length (take i xs) ≡ i = length-take-le i xs (omega arith) in
    subst AreFew (sym c.loop-entry.invariant) (are-few front (omega (arith, short, all, same, long)))

pub loop-entry-preserved : goal.loop-entry-preserved
loop-entry-preserved c =
    let xs = c.args.entries.now in
    let i = c.loop-entry.entry-index in
    let front : List Entry = map arc_value (take i xs) in
    let more = map-next arc_value xs i c.entry-item.result c.loop-entry-test.true c.entry-item.is in
    grind (arith, c.deref.ensures, more, counts-next front, c.with-counts.ensures, c.loop-entry.invariant)

use Rattle.std.proofs.Common.{arith}
use Rattle.std.proofs.lemmas.List.Sums.{fold_more}
use Rattle.serde_json.specs.Data.{no_members}
use Rattle.pgp_text.specs.Asked.{with_object}
use Rattle.pgp_text.proofs.Versions.{members-insert_entry}
use Rattle.pgp_text.proofs.reply.peers.versions_of.Goals as goal

pub loop-missing-preserved : goal.loop-missing-preserved
loop-missing-preserved c =
    let xs = c.args.objects.now in
    let more = fold_more with_object no_members xs c.loop-missing.missing-index c.missing-item.result c.loop-missing-test.true in
    let put = members-insert_entry c.loop-missing.versions.entries c.in_ok-name.name c.missing-item.result.version in
    grind (arith, more, put, c.loop-missing.invariant, c.missing-item.is, c.in_ok-insert.ensures.entries, c.in_ok-name.ensures.ok, c.as_str.ensures.value)

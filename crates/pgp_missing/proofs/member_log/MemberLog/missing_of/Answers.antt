use Rattle.std.proofs.Common.{◌≡◌, true, ◌||◌, arith}
use Rattle.std.proofs.lemmas.Bool.Decides.{nat_tests}
use Rattle.pgp_ids.specs.Version.{is_same_version}
use Rattle.pgp_missing.specs.Log.{between, has_version}
use Rattle.pgp_missing.proofs.EntryLemmas.{missing_after}
use Rattle.pgp_missing.proofs.member_log.MemberLog.missing_of.Goals as goal
use Rattle.pgp_missing.proofs.member_log.MemberLog.missing_of.Goals.{else-ne-via-then-ne+else-not-has_version, else-ne-via-else-ne}

pub returns : goal.returns
returns c = λ info reported is.
    let log = c.args.self.now in
    let end = c.args.peer.now.last_update in
    let ended : (is_same_version end log.log_tail || has_version end (between log.log_tail.v log.last_update.v log.entries)) ≡ true =
    elim c.else-ne.branch [
      | else-ne-via-then-ne+else-not-has_version w ↦ grind (arith, nat_tests, w.has_version.ensures, w.if-not-has_version)
      | else-ne-via-else-ne w ↦ grind (arith, nat_tests, c.ne.ensures, w.if-ne)
    ] in
    grind (arith, c.in_ok-objects.ensures, missing_after info reported log is c.args.peer.now (grind arith) (grind arith) ended)

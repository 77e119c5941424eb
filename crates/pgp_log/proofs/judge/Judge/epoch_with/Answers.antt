use Rattle.pgp_log.proofs.Common.{sym, ◌∙◌, incs_of}
use Rattle.pgp_log.proofs.TakeLemmas.{epoch-inc, epoch-other}
use Rattle.pgp_log.proofs.judge.Judge.epoch_with.Goals as goal

pub returns-in-Some : goal.returns-in-Some
returns-in-Some c log is = sym (epoch-inc log c.args.entry.now c.in-Some.inc.now (sym c.in-Some.ensures))

pub returns-in-None : goal.returns-in-None
returns-in-None c log is =
    c.epoch.ensures (incs_of log) is.map_is ∙ sym (epoch-other log c.args.entry.now (sym c.in-None.ensures))

use Rattle.pgp_group.proofs.Common.{◌++◌, [], ◌∷◌, ap, refl, subst, sym, on_ok_weaker, Entry, IsGroupOf}
use Rattle.pgp_ids.specs.declared.entry.Entry.TheVariants as entry
use Rattle.pgp_group.specs.Entries.{info_of}
use Rattle.pgp_group.proofs.GroupLemmas.{IsGroupOf-other, infos-kept, infos-same, names-kept, reports-kept, reports-same}
use Rattle.pgp_group.proofs.group.Group.absorb_report.Goals as goal

pub returns-in-Info-clause-ok : goal.returns-in-Info-clause-ok
returns-in-Info-clause-ok c = on_ok_weaker c.keep_info.result (λ given log pg none past is.
    subst (λ (e : Entry). IsGroupOf (log ++ e ∷ []) pg c.keep_info.new.self) (sym c.in-Info.is)
    (given log pg (past c.in-Info.info (ap info_of c.in-Info.is)) is))
    c.keep_info.ensures.ok

pub returns-in-Entries-clause-ok : goal.returns-in-Entries-clause-ok
returns-in-Entries-clause-ok c = on_ok_weaker c.keep_report.result (λ given log pg none past is.
    subst (λ (e : Entry). IsGroupOf (log ++ e ∷ []) pg c.keep_report.new.self) (sym c.in-Entries.is)
    (given log pg is)) c.keep_report.ensures.ok

pub returns-in-Close-clause-ok : goal.returns-in-Close-clause-ok
returns-in-Close-clause-ok c = λ log pg none past is.
    subst (λ (e : Entry). IsGroupOf (log ++ e ∷ []) pg c.args.self.now) (sym c.in-Close.is)
    (IsGroupOf-other log entry.Close pg c.args.self.now _ is refl (infos-same log entry.Close pg refl) refl refl
    (infos-kept log entry.Close pg is.history c.args.self.now.infos refl (infos-same log entry.Close pg refl) is.keeps.infos_are) (reports-kept log entry.Close pg is.history c.args.self.now.reports refl (reports-same log entry.Close pg refl) is.keeps.reports_are)
    (names-kept log entry.Close pg is.history c.args.self.now.named (infos-same log entry.Close pg refl) (reports-same log entry.Close pg refl) is.keeps.named_are))

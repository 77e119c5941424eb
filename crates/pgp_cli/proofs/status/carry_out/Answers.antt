use Rattle.std.proofs.Common.{◌≡◌, ◌≢◌, ◌⊎◌, Err, inl, inr, refl, ap}
use Rattle.pgp_log.proofs.SharedLemmas.{on_err}
use Rattle.pgp_whole.specs.declared.subcommand_fault.SubcommandFault.{SubcommandFault}
use Rattle.pgp_whole.specs.declared.subcommand_fault.SubcommandFault.TheVariants.{Script, Write, UnknownGroup}
use Rattle.pgp_cli.proofs.status.carry_out.Goals as goal

-- a fault is a failed write, or another one
write_or_other : (fault : SubcommandFault) → (fault ≡ Write) ⊎ (fault ≢ Write)
write_or_other (Script why) = inr (λ is. cc)
write_or_other Write = inl refl
write_or_other (UnknownGroup pg) = inr (λ is. cc)

pub returns-in_err-explain-in-Explain-clause-fault : goal.returns-in_err-explain-in-Explain-clause-fault
returns-in_err-explain-in-Explain-clause-fault g c =
    let ends = c.in_err-explain-in-Explain.ensures in
    on_err c.from_residual-in_err-explain-in-Explain.result _
    (elim (write_or_other c.in_err-explain-in-Explain.field-0.0) [
      | inl write ↦ let cut = ends.write (ap Err write) in inr (inr (record { part = inl (_, cut.1); failed = cut.0 }))
      | inr other ↦ inr (inl (ap (λ w. (g.W.Sink.state w).contents) (ends.unwritten other)))
    ])

pub returns-in_err-compacted-in-Compact-clause-fault : goal.returns-in_err-compacted-in-Compact-clause-fault
returns-in_err-compacted-in-Compact-clause-fault g c =
    let ends = c.in_err-compacted-in-Compact.ensures in
    on_err c.from_residual-in_err-compacted-in-Compact.result _
    (elim (write_or_other c.in_err-compacted-in-Compact.field-0.0) [
      | inl write ↦ let cut = ends.write (ap Err write) in inr (inr (record { part = inr (inl (_, cut)); failed = cut.failed }))
      | inr other ↦ inr (inl (ap (λ w. (g.W.Sink.state w).contents) (ends.quiet (λ same. let write : c.in_err-compacted-in-Compact.field-0.0 ≡ Write = cc in other write))))
    ])

pub returns-in_ok-compacted-in-Compact-clause-done : goal.returns-in_ok-compacted-in-Compact-clause-done
returns-in_ok-compacted-in-Compact-clause-done g c =
    let ends = c.in_ok-compacted-in-Compact.ensures in
    inr (inr (inl (record { mode = _; counts = c.in_ok-compacted-in-Compact.compacted; compacted = ends.ok; quiet = (ends.kept_reader (λ is. cc), ends.kept) })))

use Rattle.pgp_group.proofs.Common.{[], ◌∷◌, nat_eq, inl, inr, list_any-append, DeviceFacts}
use Rattle.pgp_group.proofs.Lists.{contains-push}
use Rattle.pgp_group.proofs.device_facts.note.Goals as goal

pub returns-clause-of_map : goal.returns-clause-of_map
returns-clause-of_map c = λ of_map entry there.
    elim (contains-push c.args.noted.now.items c.of.result entry (rw c.in_ok-push.ensures.items at there)) [
      | inl before ↦ of_map entry before
      | inr last ↦ rw (← last, c.of.ensures)
    ]

pub returns-clause-kept : goal.returns-clause-kept
returns-clause-kept c = λ osd noted.
    rw (c.in_ok-push.ensures.items, list_any-append (λ (entry : DeviceFacts). nat_eq entry.osd osd) c.args.noted.now.items (c.of.result ∷ []), noted)

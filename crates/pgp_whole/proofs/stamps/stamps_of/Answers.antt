use Rattle.std.proofs.Common.{◌≡◌, ℕ, ◌++◌, List, [], ◌∷◌, map, take, ap, sym, ◌∙◌, subst}
use Rattle.std.specs.Arc.{arc_value}
use Rattle.std.proofs.lemmas.List.{map_more, take_all}
use Rattle.pgp_ids.specs.declared.entry.Entry.{Entry}
use Rattle.pgp_whole.specs.kept.Hearing.{AreStamps}
use Rattle.pgp_whole.proofs.stamps.stamps_of.Goals as goal

pub loop-entry-preserved : goal.loop-entry-preserved
loop-entry-preserved c =
    let i : ℕ = c.loop-entry.entry-index in
    let entries = c.args.entries.now in
    let item = c.entry-item.result in
    let more = map_more arc_value entries i item c.loop-entry-test.true in
    let here : c.deref.result.now ≡ _ = c.deref.ensures ∙ ap arc_value c.entry-item.is in
    subst (λ (es : List Entry). AreStamps es c.put_entry.new.stamps) (ap (λ e. map arc_value (take i entries) ++ e ∷ []) here ∙ sym more)
    (c.in_ok-put_entry.ensures (map arc_value (take i entries)) c.loop-entry.invariant)

pub returns : goal.returns
returns c =
    subst (λ es. AreStamps (map arc_value es) c.loop-entry.stamps) (take_all c.loop-entry.entry-index c.args.entries.now c.loop-entry-test.false) c.loop-entry.invariant

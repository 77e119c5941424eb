use Rattle.std.proofs.Common.{◌≡◌, ◌+◌, ◌++◌, ◌∷◌, [], ap, sym, ◌∙◌, take, option_map, append-nil, Some, None, Bor, arith}
use Rattle.std.specs.Arc.{arc_value}
use Rattle.std.proofs.lemmas.Grind.{common_steps}
use Rattle.pgp_ids.specs.declared.incremental.Incremental.{Incremental}
use Rattle.pgp_group.specs.Entries.{inc_of}
use Rattle.pgp_join.specs.declared.starts.Placed.{Placed}
use Rattle.pgp_join.proofs.SameLemmas.{picked-more}
use Rattle.pgp_join.proofs.starts.incs_of.Goals as goal
use Rattle.pgp_join.proofs.starts.incs_of.Goals.{in-Some+in_ok-push, in_default}

pub loop-place-preserved : goal.loop-place-preserved
loop-place-preserved c =
    let entry = c.index-entries-place.result in
    let i = c.loop-place.place in
    let more : take (i + 1) c.args.entries.now ≡ take i c.args.entries.now ++ entry ∷ [] = grind (arith, common_steps) in
    let value = λ (placed : Placed). placed.inc.now in
    let picked = ap inc_of (sym c.deref.ensures) ∙ sym c.inc_of.ensures in
    elim c.match-inc_of.branch [
      | in-Some+in_ok-push w ↦
          picked-more inc_of arc_value value _ _ entry (Some (record { place = i; inc = w.in-Some.inc })) _ _ more (picked ∙ ap (option_map (λ (it : Bor Incremental). it.now)) w.in-Some.is)
          (ap (λ v. v.items) w.incs-is ∙ w.in_ok-push.ensures.items) c.loop-place.invariant
      | in_default w ↦
          picked-more inc_of arc_value value _ _ entry None _ _ more (picked ∙ ap (option_map (λ (it : Bor Incremental). it.now)) w.in_default.is)
          (ap (λ v. v.items) w.incs-is ∙ sym (append-nil _)) c.loop-place.invariant
    ]

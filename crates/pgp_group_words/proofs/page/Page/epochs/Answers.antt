use Rattle.std.proofs.Common.{◌≡◌, ◌+◌, ◌<◌, ℕ, List, [], length, get_or, take, map, fold, sym, ap, ◌∙◌}
use Rattle.std.proofs.lemmas.List.{map_more}
use Rattle.std.proofs.lemmas.List.Sums.{fold_push}
use Rattle.pgp_reasons.specs.declared.blocking.Blocking.{Blocking}
use Rattle.pgp_group_words.specs.Spans.{epochs_blocked, then_run}
use Rattle.pgp_group_words.specs.Text.{Sheet}
use Rattle.pgp_group_words.specs.declared.offset.EpochOffset.{EpochOffset}
use Rattle.pgp_group_words.specs.declared.spans.Span.{Span}
use Rattle.pgp_group_words.proofs.page.Page.epochs.Goals as goal

-- one interval more
one_more : (offset : EpochOffset) (xs : List Blocking) (i : ℕ) (d : Blocking) (old new : List Span) (next : Span) → i < length xs
    → old ≡ fold then_run [] (map (epochs_blocked offset) (take i xs)) → next ≡ epochs_blocked offset (get_or xs i d) → new ≡ then_run old next
    → new ≡ fold then_run [] (map (epochs_blocked offset) (take (i + 1) xs))
one_more offset xs i d old new next below now is joined =
    joined ∙ (λ k. then_run (now k) (is k))
    ∙ sym (ap (fold then_run []) (map_more (epochs_blocked offset) xs i d below) ∙ fold_push then_run [] (map (epochs_blocked offset) (take i xs)) (epochs_blocked offset (get_or xs i d)))

pub loop-blocking-preserved : goal.loop-blocking-preserved
loop-blocking-preserved c =
    let offset : EpochOffset = c.args.self.now.naming.offset in
    let same : c.self.inside.naming.offset ≡ offset = ap (λ (page : Sheet). page.naming.offset) c.self.view_is in
    let next = c.epochs_of.ensures ∙ ap (λ o. epochs_blocked o c.blocking-item.result) same ∙ ap (epochs_blocked offset) c.blocking-item.is in
    one_more offset c.args.intervals.now c.loop-blocking.blocking-index c.blocking-item.result _ _ _ c.loop-blocking-test.true c.loop-blocking.invariant next c.in_ok-join.ensures

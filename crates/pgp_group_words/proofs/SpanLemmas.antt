-- Runs with one more behind them.
use Rattle.std.proofs.Common.{◌≡◌, ◌+◌, ◌==◌, true, false, List, [], ◌∷◌, ◌++◌, cond, refl, sym, ap, ◌∙◌, append_assoc}
use Rattle.pgp_group_words.specs.Spans.{run_between, then_run}
use Rattle.pgp_group_words.specs.declared.spans.Span.{Span}

then_run-append : (front : List Span) (run next : Span)
    → then_run (front ++ run ∷ []) next ≡ front ++ cond (next.first == run.last + 1) (run_between run.first next.last ∷ []) (run ∷ next ∷ [])
then_run-append [] run next = refl
then_run-append (a ∷ []) run next = refl
then_run-append (a ∷ b ∷ front) run next = ap (λ xs. a ∷ xs) (then_run-append (b ∷ front) run next)

-- where the next one follows upon the last, that is longer
pub then_run-follows : (front : List Span) (run next : Span) → (next.first == run.last + 1) ≡ true
    → then_run (front ++ run ∷ []) next ≡ front ++ run_between run.first next.last ∷ []
then_run-follows front run next follows =
    then_run-append front run next ∙ ap (λ b. front ++ cond b (run_between run.first next.last ∷ []) (run ∷ next ∷ [])) follows

-- and else it stands behind it
pub then_run-apart : (front : List Span) (run next : Span) → (next.first == run.last + 1) ≡ false
    → then_run (front ++ run ∷ []) next ≡ (front ++ run ∷ []) ++ next ∷ []
then_run-apart front run next apart =
    then_run-append front run next ∙ ap (λ b. front ++ cond b (run_between run.first next.last ∷ []) (run ∷ next ∷ [])) apart
    ∙ sym (append_assoc front (run ∷ []) (next ∷ []))

pub ruleset run_steps = (then_run-follows, then_run-apart)

use Rattle.pgp_compact.proofs.Common.{List, Some, Span, ap, arith, current_first, current_span, find, is_in_span, les, nat_tests, option_map, past_spans, sym, true, ◌<◌, ◌∙◌, ◌≡◌}
use Rattle.pgp_compact.proofs.IntervalLemmas.{spans-apart}
use Rattle.pgp_compact.proofs.SpanLemmas.{held-before-last, held-by-last}
use Rattle.pgp_compact.proofs.course.Course.opening.Goals as goal

pub returns-then-le : goal.returns-then-le
returns-then-le c = λ g first-is spans-is known.
    let h = g.history in
    let within : is_in_span c.args.clean (current_span h) ≡ true = grind (arith, nat_tests, first-is, known) in
    let held = held-by-last h.first c.args.clean (past_spans h (les g)) (current_span h) (spans-apart h (les g)) within in
    ap Some first-is ∙ sym (ap (option_map (λ (s : Span). s.first)) held)

pub returns-else-le : goal.returns-else-le
returns-else-le c = λ g first-is spans-is known.
    let h = g.history in
    let spans : List Span = past_spans h (les g) in
    let early : c.args.clean < current_first h = grind (arith, nat_tests, first-is) in
    c.opening.ensures
    ∙ ap (λ (l : List Span). option_map (λ (s : Span). s.first) (find (is_in_span c.args.clean) l)) (c.as_slice.ensures.value ∙ spans-is)
    ∙ ap (option_map (λ (s : Span). s.first)) (sym (held-before-last c.args.clean spans (current_span h) early))

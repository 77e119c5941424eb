use Rattle.pgp_log.proofs.Common.{List, [], ◌∷◌, ◌++◌, sym, subst, Entry, is_after, log-in, incs_of, TakesNothingAway}
use Rattle.pgp_ids.specs.declared.entry.Entry.TheVariants as entry
use Rattle.pgp_log.proofs.laws.reckoning.relief.Goals as goal

pub returns : goal.returns
returns c = record {
  map = λ log pg g after inc legal fine is then' nothing.
      let new : Entry = entry.Inc inc in
      let longer = c.legal_logs_grow_by_entries_that_fit.ensures.longer log new legal fine in
      let checked = c.legal_logs_are_checked_and_short.ensures.checked (log ++ new ∷ []) longer in
      c.relief.ensures.map g after inc (is_after log (new ∷ []) pg g after checked is then')
      (subst (λ (l : List Entry). TakesNothingAway (incs_of l) inc) (sym (log-in log pg g is)) nothing);
  report = λ log pg g after new legal fine none is then'.
      let longer = c.legal_logs_grow_by_entries_that_fit.ensures.longer log new legal fine in
      let checked = c.legal_logs_are_checked_and_short.ensures.checked (log ++ new ∷ []) longer in
      c.relief.ensures.report g after new (is_after log (new ∷ []) pg g after checked is then') none;
}

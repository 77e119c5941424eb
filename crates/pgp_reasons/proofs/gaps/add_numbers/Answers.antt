use Rattle.std.proofs.Common.{◌≡◌, ℕ, ◌+◌, List, ◌∷◌, drop, map, nat_lt, ap, sym, ◌∙◌}
use Rattle.std.proofs.lemmas.List.{drop_more}
use Rattle.pgp_ids.specs.declared.log_entry.LogEntry.{LogEntry}
use Rattle.pgp_lists.specs.Ordered.{with_item, with_items}
use Rattle.pgp_lists.proofs.Ordered.{nat_order, IsAscending-with_item}
use Rattle.pgp_missing.specs.Log.{number_of}
use Rattle.pgp_prior.proofs.Lists.{with_number}
use Rattle.pgp_reasons.proofs.gaps.add_numbers.Goals as goal

pub loop-entry-preserved : goal.loop-entry-preserved
loop-entry-preserved c =
    let log : List LogEntry = c.args.log.now in
    let i : ℕ = c.loop-entry.entry-index in
    let entry : LogEntry = c.entry-item.result in
    let before : List ℕ = c.loop-entry.numbers.items in
    let rest : drop i log ≡ entry ∷ drop (i + 1) log =
    drop_more log i entry c.loop-entry-test.true ∙ ap (λ (first : LogEntry). first ∷ drop (i + 1) log) (sym c.entry-item.is) in
    let put : c.insert_in_order.new.list.items ≡ with_item nat_lt (number_of entry) before =
    c.in_ok-insert_in_order.ensures.ok ∙ with_number (number_of entry) before in (
      ap (with_items nat_lt (map number_of (drop (i + 1) log))) put
          ∙ ap (λ (left : List LogEntry). with_items nat_lt (map number_of left) before) (sym rest)
          ∙ c.loop-entry.invariant.0,
      rw put (IsAscending-with_item nat_lt nat_order.transitive (number_of entry) before c.loop-entry.invariant.1),
    )

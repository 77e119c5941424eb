use Rattle.std.proofs.Common.{List, [], map, nat_lt, ap, sym, ◌∙◌}
use Rattle.std.specs.Arc.{arc_value}
use Rattle.std.specs.List.{flat_map}
use Rattle.std.proofs.lemmas.List.{take_all}
use Rattle.pgp_ids.specs.declared.entry.Entry.{Entry}
use Rattle.pgp_ids.specs.declared.log_entry.LogEntry.{LogEntry}
use Rattle.pgp_lists.specs.Ordered.{with_items}
use Rattle.pgp_missing.specs.Log.{number_of}
use Rattle.pgp_prior.proofs.Lists.{numbers-in_order}
use Rattle.pgp_group.specs.Heard.{reported}
use Rattle.pgp_reasons.specs.Reported.{entries_in}
use Rattle.pgp_reasons.proofs.ReportedLemmas.{reported-entries}
use Rattle.pgp_reasons.proofs.gaps.reported_numbers.Goals as goal

pub returns-clause-numbers : goal.returns-clause-numbers
returns-clause-numbers c = λ g log pg here.
    let member = c.args.member.now in
    c.from_vec.ensures ∙ c.loop-entry.invariant.numbers g pg here
    ∙ ap (λ l. with_items nat_lt (map number_of (flat_map (entries_in g member) (map arc_value l))) []) (take_all c.loop-entry.entry-index c.args.entries.now c.loop-entry-test.false)
    ∙ ap (λ (l : List Entry). with_items nat_lt (map number_of (flat_map (entries_in g member) l)) []) (sym log)
    ∙ ap (λ (l : List LogEntry). with_items nat_lt (map number_of l) []) (sym (reported-entries g member))
    ∙ sym (numbers-in_order (map number_of (reported g member)))

use Rattle.std.proofs.Common.{◌≡◌, Ok, Err, length, ap, ap₂, rules, sym, ◌∙◌}
use Rattle.std.proofs.lemmas.List.{length-map}
use Rattle.std.specs.Arc.{arc_value}
use Rattle.pgp_log.specs.Log.{epoch_of}
use Rattle.pgp_group.specs.Touched.{view_at}
use Rattle.pgp_c.specs.Ask.{whole_view}
use Rattle.pgp_c.specs.View.{pgp_view}
use Rattle.pgp_c.proofs.group_calls.pgp_ask.Goals as goal
use Rattle.pgp_c.proofs.group_calls.pgp_ask.Goals.{in-Ok, in-Err}

pub returns : goal.returns
returns c =
    let log = c.in-Some.opened.value.log in
    let xs = c.entries-count.result.now in
    let many : length xs ≡ length log = sym (length-map xs arc_value) ∙ ap length (search rules) in
    let epoch : c.epoch-epoch.result ≡ epoch_of log = search rules in
    rw (sym c.in-Some.ensures.value) (elim c.match-ask.branch [
      | in-Ok w ↦ (
        search rules,
        record {
          answer = Ok (whole_view log w.in-Ok.of_group.now);
          answers = search rules;
          put = (search rules ∙ ap₂ (λ n e. pgp_view (view_at n e w.in-Ok.of_group.now)) many epoch, search rules);
        },
      )
      | in-Err w ↦ (search rules, record { answer = Err w.in-Err.status; answers = search rules; put = (search rules, search rules) })
    ])

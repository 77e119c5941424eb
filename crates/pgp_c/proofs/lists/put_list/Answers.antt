use Rattle.std.proofs.Common.{Ok, Err, arith, length, rules, sym}
use Rattle.std.proofs.lemmas.List.{length-map}
use Rattle.pgp_log.specs.Log.{epoch_of}
use Rattle.pgp_c.specs.Ask.{whole_view}
use Rattle.pgp_c.proofs.lists.put_list.Goals as goal
use Rattle.pgp_c.proofs.lists.put_list.Goals.{in-Ok, in-Err}

pub returns : goal.returns
returns g c =
    let log = c.in-Some.opened.value.log in
    rw (sym c.in-Some.ensures.value) (elim c.match-ask.branch [
      | in-Ok w ↦ (
        search rules,
        record {
          answer = Ok (whole_view log w.in-Ok.view.now);
          answers = search rules;
          put = rw (g.T.InView.stays (length log) (epoch_of log) w.in-Ok.view.now) (search rules, grind (arith, length-map), search rules);
        },
      )
      | in-Err w ↦ (search rules, record { answer = Err w.in-Err.status; answers = search rules; put = record { room = search rules; none = search rules; status_is = search rules } })
    ])

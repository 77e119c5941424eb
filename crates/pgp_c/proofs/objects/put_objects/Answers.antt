use Rattle.std.proofs.Common.{◌≡◌, Ok, Err, Some, None, refl, rules}
use Rattle.pgp_c.specs.Ask.{whole_view}
use Rattle.pgp_c.specs.Member.{member}
use Rattle.pgp_c.specs.Objects.{objects_of}
use Rattle.pgp_c.proofs.objects.put_objects.Goals as goal

pub returns-in-Some-objects_of-clause-objects : goal.returns-in-Some-objects_of-clause-objects
returns-in-Some-objects_of-clause-objects c =
    let found : objects_of c.in-Ok.view.now.missing (member c.args.osd c.args.slot) ≡ Some c.in-Some-objects_of.objects.now = search rules in
    record {
      bad = λ no. absurd (no (search rules));
      good = λ is. record { answer = Ok (whole_view c.args.session.now.log c.in-Ok.view.now); answers = c.in-Ok.ensures.view; put = rw found (search rules, search rules, search rules) };
    }

pub returns-in-None-clause-objects : goal.returns-in-None-clause-objects
returns-in-None-clause-objects c =
    let found : objects_of c.in-Ok.view.now.missing (member c.args.osd c.args.slot) ≡ None = search rules in
    record {
      bad = λ no. absurd (no (search rules));
      good = λ is. record {
        answer = Ok (whole_view c.args.session.now.log c.in-Ok.view.now);
        answers = c.in-Ok.ensures.view;
        put = rw found (record { room = refl; none = c.requires; status_is = search rules });
      };
    }

pub returns-in-Err-clause-objects : goal.returns-in-Err-clause-objects
returns-in-Err-clause-objects c = record {
  bad = λ no. absurd (no (search rules));
  good = λ is. record { answer = Err c.in-Err.status; answers = c.in-Err.ensures.status; put = record { room = refl; none = c.requires; status_is = refl } };
}

use Rattle.pgp_group_words.proofs.group_json.write_resorts.Goals as goal

pub returns-in-Some-clause-ok : goal.returns-in-Some-clause-ok
returns-in-Some-clause-ok c = rw c.in-Some.is c.write_field.ensures.ok

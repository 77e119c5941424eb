use Rattle.std.proofs.lemmas.Result.{on_ok_weaker}
use Rattle.pgp_text.proofs.Tokens.{fields_then, object_written}
use Rattle.pgp_group_words.proofs.ways_json.ThenJsonEpochOffset.write.Goals as goal

pub returns-clause-ok : goal.returns-clause-ok
returns-clause-ok c =
    let says = rw c.as_str.ensures.value at c.in_ok-write_field.ensures.ok in
    let verdict = rw c.name.ensures at c.in_ok-write_field-2.ensures.ok in
    on_ok_weaker c.end_object.result
    (λ e. object_written _ _ _ _ _ c.in_ok-begin_object.ensures.ok (fields_then _ _ _ _ _ says verdict) e) c.end_object.ensures.ok

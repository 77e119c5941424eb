use Rattle.std.proofs.lemmas.Result.{on_ok_weaker}
use Rattle.pgp_text.proofs.Tokens.{fields_then, object_written}
use Rattle.pgp_text.proofs.reply.write_asked.Goals as goal

pub returns-clause-ok : goal.returns-clause-ok
returns-clause-ok c =
    let asked = rw c.name.ensures at c.in_ok-write_field-11.ensures.ok in
    let verdict = rw c.name-2.ensures at c.in_ok-write_field-16.ensures.ok in
    on_ok_weaker c.end_object.result (λ e. object_written _ _ _ _ _ c.in_ok-begin_object.ensures.ok (fields_then _ _ _ _ _ (fields_then _ _ _ _ _ (fields_then _ _ _ _ _ (fields_then _ _ _ _ _ (fields_then _ _ _ _ _ (fields_then _ _ _ _ _ (fields_then _ _ _ _ _ (fields_then _ _ _ _ _ (fields_then _ _ _ _ _ (fields_then _ _ _ _ _ (fields_then _ _ _ _ _ (fields_then _ _ _ _ _ (fields_then _ _ _ _ _ (fields_then _ _ _ _ _ (fields_then _ _ _ _ _ c.in_ok-write_field.ensures.ok c.in_ok-write_field-2.ensures.ok) c.in_ok-write_field-3.ensures.ok) c.in_ok-write_field-4.ensures.ok) c.in_ok-write_field-5.ensures.ok) c.in_ok-write_field-6.ensures.ok) c.in_ok-write_field-7.ensures.ok) c.in_ok-write_field-8.ensures.ok) c.in_ok-write_field-9.ensures.ok) c.in_ok-write_field-10.ensures.ok) asked) c.in_ok-write_field-12.ensures.ok) c.in_ok-write_field-13.ensures.ok) c.in_ok-write_field-14.ensures.ok) c.in_ok-write_field-15.ensures.ok) verdict) e) c.end_object.ensures.ok

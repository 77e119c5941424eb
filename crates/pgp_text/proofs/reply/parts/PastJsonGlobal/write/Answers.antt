use Rattle.std.proofs.lemmas.Result.{on_ok_weaker}
use Rattle.pgp_text.proofs.Tokens.{fields_then, object_written}
use Rattle.pgp_text.proofs.reply.parts.PastJsonGlobal.write.Goals as goal

pub returns-clause-ok : goal.returns-clause-ok
returns-clause-ok c =
    on_ok_weaker c.end_object.result (λ e. object_written _ _ _ _ _ c.in_ok-begin_object.ensures.ok (fields_then _ _ _ _ _ (fields_then _ _ _ _ _ (fields_then _ _ _ _ _ (fields_then _ _ _ _ _ (fields_then _ _ _ _ _ (fields_then _ _ _ _ _ (fields_then _ _ _ _ _ (fields_then _ _ _ _ _ c.in_ok-write_field.ensures.ok c.in_ok-write_field-2.ensures.ok) c.in_ok-write_field-3.ensures.ok) c.in_ok-write_field-4.ensures.ok) c.in_ok-write_field-5.ensures.ok) c.in_ok-write_field-6.ensures.ok) c.in_ok-write_field-7.ensures.ok) c.in_ok-write_field-8.ensures.ok) c.in_ok-write_field-9.ensures.ok) e) c.end_object.ensures.ok

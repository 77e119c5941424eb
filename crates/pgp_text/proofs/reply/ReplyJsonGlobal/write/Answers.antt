use Rattle.std.proofs.lemmas.Result.{on_ok_weaker}
use Rattle.pgp_text.proofs.Tokens.{fields_then, object_written}
use Rattle.pgp_text.proofs.reply.ReplyJsonGlobal.write.Goals as goal

pub returns-in-Asked-clause-ok : goal.returns-in-Asked-clause-ok
returns-in-Asked-clause-ok c = rw c.in-Asked.is c.write_asked.ensures.ok

pub returns-in_ok-write_field-in-Located-7-clause-ok : goal.returns-in_ok-write_field-in-Located-7-clause-ok
returns-in_ok-write_field-in-Located-7-clause-ok c =
    let located = rw c.name-in-Located.ensures at c.in_ok-write_field-in-Located-4.ensures.ok in
    rw c.in-Located.is
    (on_ok_weaker c.end_object-in-Located.result (λ e. object_written _ _ _ _ _ c.in_ok-begin_object-in-Located.ensures.ok (fields_then _ _ _ _ _ (fields_then _ _ _ _ _ (fields_then _ _ _ _ _ (fields_then _ _ _ _ _ (fields_then _ _ _ _ _ (fields_then _ _ _ _ _ c.in_ok-write_field-in-Located.ensures.ok c.in_ok-write_field-in-Located-2.ensures.ok) c.in_ok-write_field-in-Located-3.ensures.ok) located) c.in_ok-write_field-in-Located-5.ensures.ok) c.in_ok-write_field-in-Located-6.ensures.ok) c.in_ok-write_field-in-Located-7.ensures.ok) e) c.end_object-in-Located.ensures.ok)

pub returns-in_ok-write_field-in-Traced-3-clause-ok : goal.returns-in_ok-write_field-in-Traced-3-clause-ok
returns-in_ok-write_field-in-Traced-3-clause-ok c =
    let name = rw c.name-in-Traced.ensures at c.in_ok-write_field-in-Traced-3.ensures.ok in
    rw c.in-Traced.is
    (on_ok_weaker c.end_object-in-Traced.result (λ e. object_written _ _ _ _ _ c.in_ok-begin_object-in-Traced.ensures.ok (fields_then _ _ _ _ _ (fields_then _ _ _ _ _ c.in_ok-write_field-in-Traced.ensures.ok c.in_ok-write_field-in-Traced-2.ensures.ok) name) e) c.end_object-in-Traced.ensures.ok)

use Rattle.std.proofs.Common.{◌++◌, ap, ◌∙◌}
use Rattle.json.specs.Print.{print}
use Rattle.serde_json.proofs.Texts.{print-outline}
use Rattle.pgp_text.proofs.Tokens.{fields_then, object_written}
use Rattle.pgp_text.specs.Written.{tokens_of}
use Rattle.pgp_whole.specs.SummaryText.{summary_data, summary_json}
use Rattle.pgp_whole.proofs.summary.Summary.json.Goals as goal

pub returns : goal.returns
unfolding summary_json
returns c =
    let d = summary_data c.args.offset c.args.self.now in
    let groups = rw c.len.ensures at c.in_ok-write_field-3.ensures.ok in
    let fields = fields_then _ _ _ _ _ (fields_then _ _ _ _ _ (fields_then _ _ _ _ _ c.in_ok-write_field.ensures.ok c.in_ok-write_field-2.ensures.ok) groups) c.in_ok-write_field-4.ensures.ok in
    let whole = object_written _ _ _ _ _ c.in_ok-begin_object.ensures.ok fields c.in_ok-end_object.ensures.ok ∙ ap (λ ts. ts ++ tokens_of d) c.new-out.ensures.tokens in
    rw (ap print whole ∙ print-outline d) at c.into_line.ensures

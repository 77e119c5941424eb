use Rattle.std.proofs.Common.{◌++◌, ap, ◌∙◌}
use Rattle.json.specs.Print.{print}
use Rattle.serde_json.proofs.Texts.{print-outline}
use Rattle.pgp_text.proofs.Tokens.{fields_then, object_written}
use Rattle.pgp_text.specs.Written.{tokens_of}
use Rattle.pgp_group_words.specs.Json.{advice_data, advice_json}
use Rattle.pgp_group_words.proofs.advice.Advice.json.Goals as goal

pub returns : goal.returns
unfolding advice_json
returns c =
    let d = advice_data c.args.offset c.args.self.now in
    let says = rw (c.as_str.ensures.value, c.in_ok-says.ensures) at c.in_ok-write_field-12.ensures.ok in
    let unheard = rw c.in_ok-unheard.ensures at c.in_ok-write_field-13.ensures.ok in
    let verdict = rw c.name.ensures at c.in_ok-write_field-16.ensures.ok in
    let two = fields_then _ _ _ _ _ c.in_ok-write_field.ensures.ok c.in_ok-write_field-2.ensures.ok in
    let four = fields_then _ _ _ _ _ (fields_then _ _ _ _ _ two c.in_ok-write_field-3.ensures.ok) c.in_ok-write_field-4.ensures.ok in
    let six = fields_then _ _ _ _ _ (fields_then _ _ _ _ _ four c.in_ok-write_field-5.ensures.ok) c.in_ok-write_field-6.ensures.ok in
    let eight = fields_then _ _ _ _ _ (fields_then _ _ _ _ _ six c.in_ok-write_field-7.ensures.ok) c.in_ok-write_field-8.ensures.ok in
    let place = fields_then _ _ _ _ _ eight c.in_ok-write_field-9.ensures.ok in
    let pg = fields_then _ _ _ _ _ c.in_ok-write_field-10.ensures.ok c.in_ok-write_field-11.ensures.ok in
    let hearing = fields_then _ _ _ _ _ (fields_then _ _ _ _ _ pg says) unheard in
    let up = fields_then _ _ _ _ _ (fields_then _ _ _ _ _ hearing c.in_ok-write_field-14.ensures.ok) c.in_ok-write_field-15.ensures.ok in
    let rest = fields_then _ _ _ _ _ (fields_then _ _ _ _ _ up verdict) c.in_ok-write_field-17.ensures.ok in
    let fields = fields_then _ _ _ _ _ place (fields_then _ _ _ _ _ c.in_ok-write_resorts.ensures.ok rest) in
    let whole = object_written _ _ _ _ _ c.in_ok-begin_object.ensures.ok fields c.in_ok-end_object.ensures.ok ∙ ap (λ ts. ts ++ tokens_of d) c.new-out.ensures.tokens in
    rw (ap print whole ∙ print-outline d) at c.into_line.ensures

use Rattle.std.proofs.Common.{◌≡◌, drop, get_or, true, false, ◌==◌, sym, ap, ◌∙◌, arith, take_all, length-drop}
use Rattle.fast_float.specs.Text.{scan}
use Rattle.serde_json.specs.Read.{number_of, number_from}
use Rattle.pgp_lines.proofs.command.number.Number.scan.Goals as goal

pub returns-then-begins_with : goal.returns-then-begins_with
unfolding number_of
returns-then-begins_with c =
    let s = c.args.bytes.now in
    let signed : (get_or s 0 0 == 45) ≡ true = sym c.if-begins_with.ensures.value in
    let parts : c.scan.result ≡ scan (drop 1 s) = c.scan.ensures.parts ∙ ap scan (take_all _ (drop 1 s) (omega (arith, length-drop 1 s))) in
    let read : number_from true (scan (drop 1 s)) ≡ number_of s = rw signed in
    c.of_numeral.ensures ∙ ap (number_from true) parts ∙ read

pub returns-else-begins_with : goal.returns-else-begins_with
unfolding number_of
returns-else-begins_with c =
    let s = c.args.bytes.now in
    let unsigned : (get_or s 0 0 == 45) ≡ false = sym c.if-begins_with.ensures.value in
    let read : number_from false (scan s) ≡ number_of s = rw unsigned in
    c.of_numeral-else-begins_with.ensures ∙ ap (number_from false) c.scan-else-begins_with.ensures.parts ∙ read

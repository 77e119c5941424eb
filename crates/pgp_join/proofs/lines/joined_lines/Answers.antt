use Rattle.std.proofs.Common.{IfSome, length, map, subst, sym}
use Rattle.std.specs.Arc.{arc_value}
use Rattle.std.proofs.lemmas.List.{length-map}
use Rattle.pgp_group.specs.Entries.{incs_of}
use Rattle.pgp_join.specs.Bound.{IsJoinedLog}
use Rattle.pgp_join.specs.Text.{MayStandFor}
use Rattle.pgp_join.proofs.AnswerLemmas.{joined-lines}
use Rattle.pgp_join.proofs.lines.joined_lines.Goals as goal

pub returns-in-Some : goal.returns-in-Some
returns-in-Some c =
    let log = map arc_value c.args.entries.now in
    let items = c.as_slice.result.now in
    let joined = map arc_value items in
    let found : MayStandFor joined c.in-Some.text.items (length items) (length (incs_of joined)) =
    subst (λ o. IfSome o (λ text. MayStandFor joined text.items (length items) (length (incs_of joined)))) c.in-Some.is c.in_ok-text.ensures in
    joined-lines log joined c.in-Some.text.items (length items)
    (subst (λ l. IsJoinedLog log (map arc_value l)) (sym c.as_slice.ensures.value) c.in_ok-joined.ensures) (sym (length-map items arc_value)) found

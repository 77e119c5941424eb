use Rattle.pgp_compact.proofs.Common.{Bool, GroupPlace, ap, arith, can_write, code_of, enough_of, epoch-snoc, is_by_place, is_recorded, last-checked, later_epoch, nat_le, nat_tests, not, primary_facts, same_Some, sym, then_with, ◌-◌, ◌&&◌, ◌||◌, ◌∙◌, ◌≡◌}
use Rattle.pgp_compact.proofs.CoursesLemmas.{if-able, pool-later, wants-are}
use Rattle.pgp_compact.proofs.course.Course.wants_clean.Goals as goal

pub returns-in_default-pool : goal.returns-in_default-pool
returns-in_default-pool c = λ incs inc place next before some way.
    absurd (pool-later incs inc c.args.after.now next c.args.self.now.pg way.history way.history_is (sym (c.in_default-pool.ensures.value (then_with incs inc) next.after_is)))

pub returns : goal.returns
returns c = λ incs inc place next before some way.
    let later = then_with incs inc in
    let now = c.args.self.now in
    let kind = c.in-Some-pool.pool.kind in
    let pooled = sym (c.in-Some-pool.ensures.value later next.after_is) in
    let wants = wants-are incs inc c.args.after.now next now.pg now.les now.first now.spans.items place way c.in-Some-pool.pool pooled in
    let same : place ≡ c.in-Some.place = same_Some place c.in-Some.place (sym some ∙ c.in-Some.is) in
    let can : Bool = can_write (enough_of (code_of kind)) (is_by_place (code_of kind)) place.members in
    let can-is : can ≡ c.can_write-can.result = (λ i. can_write (enough_of (sym c.of_pool.ensures i)) (is_by_place (sym c.of_pool.ensures i)) (same i).members) ∙ sym c.can_write-can.ensures in
    let recorded : Bool = is_recorded (primary_facts incs place.members.acting_primary) now.first in
    let facts = c.facts-facts.ensures incs inc before next.after_is in
    let recorded-is : recorded ≡ c.is_recorded.result = (λ i. is_recorded ((ap (λ (p : GroupPlace). primary_facts incs p.members.acting_primary) same ∙ sym facts) i) now.first) ∙ sym c.is_recorded.ensures in
    let later-is : c.epoch.result ≡ inc.epoch = c.epoch.ensures later next.after_is ∙ epoch-snoc incs inc in
    let late : c.lt.result ≡ nat_le now.les (inc.epoch - 1) = grind (arith, nat_tests, later-is, later_epoch incs inc (last-checked incs inc next.checked)) in
    c.can_matter.ensures
    ∙ (λ i. sym can-is i && (not (sym recorded-is i) || late i))
    ∙ if-able can recorded (nat_le now.les (inc.epoch - 1)) ∙ sym wants

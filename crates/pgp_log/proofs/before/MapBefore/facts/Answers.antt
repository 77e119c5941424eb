use Rattle.pgp_log.proofs.Common.{◌≡◌, ℕ, ◌<◌, List, Some, false, length, get_or, sym, ap, ◌∙◌, list_any, nat_eq, eqb-true, take_all, then_with, primary_facts, DeviceFacts, MapBefore}
use Rattle.pgp_log.proofs.MapBeforeLemmas.{facts-at, facts-else}
use Rattle.pgp_log.proofs.before.MapBefore.facts.Goals as goal

pub returns-then-eq : goal.returns-then-eq
returns-then-eq c = λ incs inc is made.
    let before : MapBefore = c.args.self.now in
    let i = c.loop-device.device-index in
    let device : DeviceFacts = c.device-item.result in
    let within : i < length before.devices.items = rw (← c.as_slice-device-items.ensures.value) c.loop-device-test.true in
    let item : device ≡ get_or before.devices.items i device = rw (← c.as_slice-device-items.ensures.value) c.device-item.is in
    let same : device.osd ≡ c.in-Some.osd = eqb-true device.osd c.in-Some.osd (sym c.eq.ensures ∙ c.if-eq.true) in
    facts-at incs inc before i device is within item
    ∙ ap (λ (osd : ℕ). primary_facts incs (Some osd)) same ∙ ap (primary_facts incs) (sym c.in-Some.is)

pub returns : goal.returns
returns c = λ incs inc is made.
    let before : MapBefore = c.args.self.now in
    let items : List DeviceFacts = c.as_slice-device-items.result.now in
    let osd : ℕ = c.in-Some.osd in
    let test = λ (d : DeviceFacts). nat_eq d.osd osd in
    let none : list_any test before.devices.items ≡ false =
    ap (list_any test) (sym c.as_slice-device-items.ensures.value)
    ∙ ap (list_any test) (sym (take_all c.loop-device.device-index items c.loop-device-test.false)) ∙ c.loop-device.invariant in
    c.primary_facts-2.ensures (then_with incs inc) made ∙ facts-else incs inc before osd is none ∙ ap (primary_facts incs) (sym c.in-Some.is)
